use Rattle.metis_choice.proofs.Resolving.{pairs_attain, pairs_hold}
use Rattle.metis_choice.proofs.laws.pairs_for_goals_hold_them.Goals as goal

pub returns-clause-holds : goal.returns-clause-holds
returns-clause-holds c = pairs_hold

pub returns-clause-attains : goal.returns-clause-attains
returns-clause-attains c = pairs_attain
