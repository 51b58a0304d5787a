use Rattle.metis_uniqueness.proofs.Plain.{refute_one}
use Rattle.metis_uniqueness.proofs.laws.a_refutation_has_one_answer.Goals as goal

pub returns : goal.returns
returns c = refute_one
