use Rattle.std.proofs.Common.{sym, ap, ◌∙◌}
use Rattle.metis_text.specs.Terms.{refusal_from, refusal_in, refusal_parts}
use Rattle.metis_text.proofs.RefusalFaults.{closed, lines_from, refusal_text}
use Rattle.metis_text.proofs.RefusalRead.{refusal_read}
use Rattle.metis_tokens.proofs.Texts.{front_of_accepted}
use Rattle.metis_text.proofs.laws.refusal_front_is_short.Goals as goal

pub returns : goal.returns
returns c = λ u set lacks front more table is text some. front_of_accepted (lines_from u) closed (refusal_from u) (refusal_text u) front more (refusal_parts lacks set) some (ap (refusal_in u) (sym text) ∙ refusal_read u table set lacks is)
