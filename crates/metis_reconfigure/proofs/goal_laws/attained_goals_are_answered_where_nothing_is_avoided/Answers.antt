use Rattle.metis_reconfigure.proofs.Answering.{answerable}
use Rattle.metis_reconfigure.proofs.Unavoided.{met_after_run, none_unavoidable}
use Rattle.metis_reconfigure.proofs.goal_laws.attained_goals_are_answered_where_nothing_is_avoided.Goals as goal

pub returns-clause-avoidable : goal.returns-clause-avoidable
returns-clause-avoidable c = λ u wishes c leaving goals k none attained. none_unavoidable u wishes c leaving none goals k attained

pub returns-clause-met : goal.returns-clause-met
returns-clause-met c = met_after_run

pub returns-clause-answerable : goal.returns-clause-answerable
returns-clause-answerable c = answerable
