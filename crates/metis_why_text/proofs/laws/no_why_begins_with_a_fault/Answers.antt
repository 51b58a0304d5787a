use Rattle.metis_tokens.proofs.Texts.{fault_stays}
use Rattle.metis_why_text.proofs.WhyFaults.{all_from, closed, why_text}
use Rattle.metis_why_text.specs.Terms.{why_from}
use Rattle.metis_why_text.proofs.laws.no_why_begins_with_a_fault.Goals as goal

pub returns : goal.returns
returns c = λ u. fault_stays (all_from u) closed (why_from u) (why_text u)
