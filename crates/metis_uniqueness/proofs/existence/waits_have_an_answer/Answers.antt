use Rattle.metis_uniqueness.proofs.AnswersThere.{waits_there}
use Rattle.metis_uniqueness.proofs.existence.waits_have_an_answer.Goals as goal

pub returns : goal.returns
returns c = λ u plan after table formed. waits_there u table plan after formed
