use Rattle.metis_uniqueness.proofs.AnswersThere.{confirm_there}
use Rattle.metis_uniqueness.proofs.existence.a_confirmation_has_an_answer.Goals as goal

pub returns : goal.returns
returns c = λ u goals why k. confirm_there u k goals why
