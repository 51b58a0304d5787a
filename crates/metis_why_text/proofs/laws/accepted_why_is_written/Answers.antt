use Rattle.metis_why_text.proofs.WhyRead.{why_is}
use Rattle.metis_why_text.specs.Terms.{why_parts}
use Rattle.metis_why_text.proofs.laws.accepted_why_is_written.Goals as goal

pub returns : goal.returns
returns c = λ u bytes lacks lines read. why_is u bytes (why_parts lacks lines) read
