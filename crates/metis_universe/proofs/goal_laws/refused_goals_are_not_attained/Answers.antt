use Rattle.metis_universe.proofs.Served.{goals_refused, run_lacks}
use Rattle.metis_universe.proofs.goal_laws.refused_goals_are_not_attained.Goals as goal

pub returns-clause-refused : goal.returns-clause-refused
returns-clause-refused c = goals_refused

pub returns-clause-lacked : goal.returns-clause-lacked
returns-clause-lacked c = run_lacks
