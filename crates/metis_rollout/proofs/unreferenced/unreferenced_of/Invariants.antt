use Rattle.metis_rollout.specs.Terms.{all_but}
use Rattle.metis_rollout.proofs.UnreferencedFacts.{AreUnreferencedWith}
use Rattle.metis_rollout.proofs.unreferenced.unreferenced_of.Given as goal

abbrev pub invariant-loop-z : goal.invariant-loop-z
invariant-loop-z l = AreUnreferencedWith (all_but l.stays.keys) l.c l.unreferenced.keys l.z-iterator
