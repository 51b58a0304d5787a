use Rattle.metis_choice.proofs.Resolving.{pairs_count, pairs_themselves, pairs_unique}
use Rattle.metis_choice.proofs.laws.pairs_for_goals_are_unique.Goals as goal

pub returns-clause-one : goal.returns-clause-one
returns-clause-one c = pairs_unique

pub returns-clause-count : goal.returns-clause-count
returns-clause-count c = pairs_count

pub returns-clause-themselves : goal.returns-clause-themselves
returns-clause-themselves c = pairs_themselves
