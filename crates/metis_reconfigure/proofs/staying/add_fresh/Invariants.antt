use Rattle.std.proofs.Common.{not, ◌||◌}
use Rattle.metis_rollout.specs.Terms.{members}
use Rattle.metis_universe.specs.Terms.{has}
use Rattle.metis_reconfigure.specs.Terms.{fresh_in}
use Rattle.metis_reconfigure.proofs.Choosing.{AreSoFar}
use Rattle.metis_reconfigure.proofs.staying.add_fresh.Given as goal

abbrev pub invariant-loop-z : goal.invariant-loop-z
invariant-loop-z l = AreSoFar (λ z. not (has (members l.c) z)) (λ z. has l.initial.set.keys z || has (fresh_in l.c l.d) z) l.set.keys l.z-iterator
