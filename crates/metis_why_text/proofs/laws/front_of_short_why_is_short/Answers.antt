use Rattle.metis_tokens.proofs.Texts.{front_of_short}
use Rattle.metis_why_text.proofs.WhyFaults.{all_from, closed, why_text}
use Rattle.metis_why_text.specs.Terms.{why_from}
use Rattle.metis_why_text.proofs.laws.front_of_short_why_is_short.Goals as goal

pub returns : goal.returns
returns c = λ u. front_of_short (all_from u) closed (why_from u) (why_text u)
