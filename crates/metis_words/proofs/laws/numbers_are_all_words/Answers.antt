use Rattle.metis_words.proofs.NumberLaws.{all_are_read, first_is_told}
use Rattle.metis_words.proofs.laws.numbers_are_all_words.Goals as goal

pub returns-clause-all : goal.returns-clause-all
returns-clause-all c = all_are_read

pub returns-clause-first : goal.returns-clause-first
returns-clause-first c = first_is_told
