use Rattle.metis_planner.proofs.Ending.{attained_layered, come_to_a_plan}
use Rattle.metis_planner.proofs.laws.attained_targets_have_a_plan_by_rounds.Goals as goal

pub returns : goal.returns
returns c = λ u g table attained. come_to_a_plan u table g (attained_layered u table.universe g attained)
