use Rattle.metis_why_text.proofs.WhyShort.{why_short}
use Rattle.metis_why_text.proofs.laws.why_text_is_short.Goals as goal

pub returns : goal.returns
returns c = why_short
