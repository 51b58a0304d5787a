use Rattle.metis_reconfigure.proofs.NothingStands.{is_the_plan, planned_for}
use Rattle.metis_reconfigure.proofs.goal_laws.where_nothing_stands_it_is_the_plan.Goals as goal

pub returns-clause-plan : goal.returns-clause-plan
returns-clause-plan c = planned_for

pub returns-clause-same : goal.returns-clause-same
returns-clause-same c = is_the_plan
