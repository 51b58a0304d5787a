use Rattle.metis_tokens.proofs.Texts.{short_stays}
use Rattle.metis_why_text.proofs.WhyFaults.{all_from, closed, why_text}
use Rattle.metis_why_text.specs.Terms.{why_from}
use Rattle.metis_why_text.proofs.laws.short_why_until_a_line_ends.Goals as goal

pub returns : goal.returns
returns c = λ u. short_stays (all_from u) closed (why_from u) (why_text u)
