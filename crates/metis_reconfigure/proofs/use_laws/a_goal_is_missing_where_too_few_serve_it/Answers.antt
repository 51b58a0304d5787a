use Rattle.metis_reconfigure.proofs.Using.{missing_as_often, missing_placed}
use Rattle.metis_reconfigure.proofs.use_laws.a_goal_is_missing_where_too_few_serve_it.Goals as goal

pub returns-clause-placed : goal.returns-clause-placed
returns-clause-placed c = missing_placed

pub returns-clause-counted : goal.returns-clause-counted
returns-clause-counted c = missing_as_often
