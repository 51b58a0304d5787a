use Rattle.metis_text.specs.Terms.{refusal_from}
use Rattle.metis_text.proofs.RefusalFaults.{closed, lines_from, refusal_text}
use Rattle.metis_tokens.proofs.Texts.{fault_stays}
use Rattle.metis_text.proofs.laws.no_refusal_begins_with_a_fault.Goals as goal

pub returns : goal.returns
returns c = λ u. fault_stays (lines_from u) closed (refusal_from u) (refusal_text u)
