use Rattle.metis_why_text.proofs.LineFeeds.{why_lines_are_lines}
use Rattle.metis_why_text.proofs.laws.why_has_lines.Goals as goal

pub returns : goal.returns
returns c = why_lines_are_lines
