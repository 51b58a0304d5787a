use Rattle.metis_uniqueness.proofs.AnswersThere.{control_there}
use Rattle.metis_uniqueness.proofs.existence.a_control_has_an_answer.Goals as goal

pub returns : goal.returns
returns c = λ u actions script k of. control_there u k actions of script
