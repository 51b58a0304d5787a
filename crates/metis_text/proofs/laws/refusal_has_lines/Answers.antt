use Rattle.metis_text.proofs.LineFeeds.{refusal_lines_are_lines}
use Rattle.metis_text.proofs.laws.refusal_has_lines.Goals as goal

pub returns : goal.returns
returns c = refusal_lines_are_lines
