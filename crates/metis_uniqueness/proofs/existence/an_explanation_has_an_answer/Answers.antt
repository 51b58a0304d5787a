use Rattle.metis_uniqueness.proofs.AnswersThere.{why_there}
use Rattle.metis_uniqueness.proofs.existence.an_explanation_has_an_answer.Goals as goal

pub returns : goal.returns
returns c = λ u goals k all. why_there u k goals all
