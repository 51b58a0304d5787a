use Rattle.std.proofs.Common.{◌≡◌, take}
use Rattle.metis_replay.specs.Terms.{after_feeding}
use Rattle.metis_steady.proofs.steady.replay_of.Given as goal

abbrev pub invariant-loop-action : goal.invariant-loop-action
invariant-loop-action l = record {
  fed : l.replay ≡ after_feeding l.u (take l.action-index l.actions);
}
