use Rattle.metis_uniqueness.proofs.Plain.{confirm_one}
use Rattle.metis_uniqueness.proofs.laws.a_confirmation_has_one_answer.Goals as goal

pub returns : goal.returns
returns c = confirm_one
