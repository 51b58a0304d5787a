use Rattle.metis_uniqueness.proofs.Plain.{load_one}
use Rattle.metis_uniqueness.proofs.laws.a_load_has_one_answer.Goals as goal

pub returns : goal.returns
returns c = load_one
