use Rattle.std.specs.List.{filter}
use Rattle.metis_rollout.specs.Terms.{members}
use Rattle.metis_universe.specs.Terms.{has}
use Rattle.metis_reconfigure.proofs.Choosing.{IsSoFar}
use Rattle.metis_reconfigure.proofs.rebinding.rebound_in.Given as goal

abbrev pub invariant-loop-z : goal.invariant-loop-z
invariant-loop-z l = IsSoFar (has l.free.keys) (filter (has l.free.keys) (members l.c)) l.zs.items l.z-iterator
