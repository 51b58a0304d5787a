use Rattle.metis_uniqueness.proofs.Plain.{sim_one}
use Rattle.metis_uniqueness.proofs.laws.a_session_has_one_answer.Goals as goal

pub returns : goal.returns
returns c = sim_one
