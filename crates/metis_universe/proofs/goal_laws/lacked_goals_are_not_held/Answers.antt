use Rattle.metis_universe.proofs.Served.{inside_not_held, occupied_lack, smaller_lacks}
use Rattle.metis_universe.proofs.goal_laws.lacked_goals_are_not_held.Goals as goal

pub returns-clause-occupied : goal.returns-clause-occupied
returns-clause-occupied c = occupied_lack

pub returns-clause-larger : goal.returns-clause-larger
returns-clause-larger c = smaller_lacks

pub returns-clause-inside : goal.returns-clause-inside
returns-clause-inside c = inside_not_held
