use Rattle.std.proofs.Common.{◌≡◌}
use Rattle.metis_universe.specs.Terms.{Universe, after_all}
use Rattle.metis_rollout.specs.Terms.{deletes}
use Rattle.metis_rollout.proofs.staying.take_out.Given as goal

abbrev pub invariant-loop-z : goal.invariant-loop-z
invariant-loop-z l = (u : Universe) → after_all u l.initial.c (deletes l.stays.keys) ≡ after_all u l.c (deletes l.z-iterator)
