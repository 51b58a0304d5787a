use Rattle.metis_reconfigure.proofs.NewOnes.{new_ones_inside, unavoidable_unserved}
use Rattle.metis_reconfigure.proofs.goal_laws.new_instances_stay_within_what_is_left_to_plan.Goals as goal

pub returns-clause-inside : goal.returns-clause-inside
returns-clause-inside c = new_ones_inside

pub returns-clause-unserved : goal.returns-clause-unserved
returns-clause-unserved c = unavoidable_unserved
