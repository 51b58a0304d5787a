use Rattle.metis_why_text.proofs.FirstFlaws.{told_is_had}
use Rattle.metis_why_text.proofs.laws.told_why_fault_is_had.Goals as goal

pub returns : goal.returns
returns c = told_is_had
