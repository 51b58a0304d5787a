use Rattle.metis_choice.proofs.Resolving.{attained_where_none}
use Rattle.metis_choice.proofs.laws.goals_are_attained_where_none_is_lacking.Goals as goal

pub returns : goal.returns
returns c = λ u goals universe. attained_where_none u universe goals
