use Rattle.std.proofs.Common.{◌&&◌, not}
use Rattle.metis_rollout.specs.Terms.{is_idle}
use Rattle.metis_universe.specs.Terms.{has}
use Rattle.metis_reconfigure.specs.Terms.{dependents, has_edge}
use Rattle.metis_reconfigure.proofs.Edging.{AreSoFar}
use Rattle.metis_reconfigure.proofs.edges.dependents_of.Given as goal

abbrev pub invariant-loop-tie : goal.invariant-loop-tie
invariant-loop-tie l = AreSoFar (λ b. (b.2, b.1, b.0)) (λ b. not (is_idle l.u l.c b) && not (has l.free.keys b.1)) (has_edge (dependents l.u l.c l.free.keys)) l.edges.keys l.tie-iterator
