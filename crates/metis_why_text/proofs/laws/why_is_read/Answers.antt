use Rattle.metis_why_text.proofs.WhyRead.{why_read}
use Rattle.metis_why_text.proofs.laws.why_is_read.Goals as goal

pub returns : goal.returns
returns c = why_read
