use Rattle.metis_uniqueness.proofs.AnswersThere.{print_there}
use Rattle.metis_uniqueness.proofs.existence.a_print_has_an_answer.Goals as goal

pub returns : goal.returns
returns c = print_there
