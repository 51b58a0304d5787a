use Rattle.metis_uniqueness.proofs.AnswersThere.{place_there}
use Rattle.metis_uniqueness.proofs.existence.a_placement_has_an_answer.Goals as goal

pub returns : goal.returns
returns c = λ u actions hosts k of. place_there u k actions of hosts
