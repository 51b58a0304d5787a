use Rattle.metis_text.proofs.LineFeeds.{plan_lines_are_lines}
use Rattle.metis_text.proofs.laws.plan_has_lines.Goals as goal

pub returns : goal.returns
returns c = plan_lines_are_lines
