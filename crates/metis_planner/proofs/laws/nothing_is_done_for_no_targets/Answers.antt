use Rattle.metis_planner.proofs.NoTargets.{empty_for_none}
use Rattle.metis_planner.proofs.laws.nothing_is_done_for_no_targets.Goals as goal

pub returns : goal.returns
returns c = empty_for_none
