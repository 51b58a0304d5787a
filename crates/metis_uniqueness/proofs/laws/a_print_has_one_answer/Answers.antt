use Rattle.metis_uniqueness.proofs.Plain.{print_one}
use Rattle.metis_uniqueness.proofs.laws.a_print_has_one_answer.Goals as goal

pub returns : goal.returns
returns c = print_one
