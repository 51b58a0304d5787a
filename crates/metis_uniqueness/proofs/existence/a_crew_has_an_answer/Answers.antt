use Rattle.metis_uniqueness.proofs.AnswersThere.{crew_there}
use Rattle.metis_uniqueness.proofs.existence.a_crew_has_an_answer.Goals as goal

pub returns : goal.returns
returns c = λ u actions turns k of. crew_there u k actions of turns
