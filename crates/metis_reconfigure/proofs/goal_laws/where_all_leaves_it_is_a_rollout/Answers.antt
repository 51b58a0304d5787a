use Rattle.metis_reconfigure.proofs.Rollouts.{is_rollout, pairs_for, planned_over_all, teardown}
use Rattle.metis_reconfigure.proofs.goal_laws.where_all_leaves_it_is_a_rollout.Goals as goal

pub returns-clause-teardown : goal.returns-clause-teardown
returns-clause-teardown c = teardown

pub returns-clause-rollout : goal.returns-clause-rollout
returns-clause-rollout c = λ u wishes old goals r k steady none_avoided no_kept no_rebound all. is_rollout u k wishes old steady goals r none_avoided no_kept no_rebound all

pub returns-clause-plan : goal.returns-clause-plan
returns-clause-plan c = λ u wishes old goals r k steady none_avoided no_kept no_rebound all attained. (pairs_for u k goals attained, planned_over_all u k wishes old steady goals r none_avoided no_kept no_rebound all)
