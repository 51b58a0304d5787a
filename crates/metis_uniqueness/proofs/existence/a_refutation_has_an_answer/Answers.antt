use Rattle.metis_uniqueness.proofs.AnswersThere.{refute_there}
use Rattle.metis_uniqueness.proofs.existence.a_refutation_has_an_answer.Goals as goal

pub returns : goal.returns
returns c = λ u goals set k up. refute_there u k goals set up
