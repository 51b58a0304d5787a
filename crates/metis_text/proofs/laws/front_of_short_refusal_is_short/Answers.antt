use Rattle.metis_text.specs.Terms.{refusal_from}
use Rattle.metis_text.proofs.RefusalFaults.{closed, lines_from, refusal_text}
use Rattle.metis_tokens.proofs.Texts.{front_of_short}
use Rattle.metis_text.proofs.laws.front_of_short_refusal_is_short.Goals as goal

pub returns : goal.returns
returns c = λ u. front_of_short (lines_from u) closed (refusal_from u) (refusal_text u)
