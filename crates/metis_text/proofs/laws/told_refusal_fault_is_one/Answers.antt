use Rattle.metis_text.proofs.RefusalFaults.{told_is_fault}
use Rattle.metis_text.proofs.laws.told_refusal_fault_is_one.Goals as goal

pub returns : goal.returns
returns c = told_is_fault
