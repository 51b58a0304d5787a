use Rattle.metis_text.specs.Terms.{refusal_from}
use Rattle.metis_text.proofs.RefusalFaults.{closed, lines_from, refusal_text}
use Rattle.metis_tokens.proofs.Texts.{short_stays}
use Rattle.metis_text.proofs.laws.short_refusal_until_a_line_ends.Goals as goal

pub returns : goal.returns
returns c = λ u. short_stays (lines_from u) closed (refusal_from u) (refusal_text u)
