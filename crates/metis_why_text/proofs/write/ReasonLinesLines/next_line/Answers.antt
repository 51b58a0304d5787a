use Rattle.std.proofs.Common.{sym, subst}
use Rattle.metis_outside.specs.Terms.{IsLine}
use Rattle.metis_why_text.proofs.LineFeeds.{IsLine-line_text}
use Rattle.metis_why_text.proofs.write.ReasonLinesLines.next_line.Goals as goal

pub returns-clause-line : goal.returns-clause-line
returns-clause-line c more = subst IsLine (sym c.in_ok-set_reason.ensures) (IsLine-line_text c.self.inside.universe.now c.keeps_invariant.ensures.named _)
