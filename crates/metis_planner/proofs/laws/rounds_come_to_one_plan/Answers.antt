use Rattle.metis_planner.proofs.Unique.{one_plan}
use Rattle.metis_planner.proofs.laws.rounds_come_to_one_plan.Goals as goal

pub returns : goal.returns
returns c = one_plan
