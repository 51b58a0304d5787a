use Rattle.metis_uniqueness.proofs.AnswersThere.{sim_there}
use Rattle.metis_uniqueness.proofs.existence.a_session_has_an_answer.Goals as goal

pub returns : goal.returns
returns c = sim_there
