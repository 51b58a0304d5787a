use Rattle.metis_why_text.proofs.WhyFaults.{told_is_fault}
use Rattle.metis_why_text.proofs.laws.told_why_fault_is_one.Goals as goal

pub returns : goal.returns
returns c = told_is_fault
