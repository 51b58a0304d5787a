use Rattle.metis_inputs.proofs.NamedGoals.{all_are_named, first_is_told}
use Rattle.metis_inputs.proofs.laws.goals_are_named_word_by_word.Goals as goal

pub returns-clause-all : goal.returns-clause-all
returns-clause-all c = all_are_named

pub returns-clause-first : goal.returns-clause-first
returns-clause-first c = first_is_told
