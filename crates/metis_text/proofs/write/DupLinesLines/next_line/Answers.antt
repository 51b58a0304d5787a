use Rattle.std.proofs.Common.{sym, subst}
use Rattle.metis_outside.specs.Terms.{IsLine}
use Rattle.metis_text.proofs.LineFeeds.{IsLine-dup_line}
use Rattle.metis_text.proofs.write.DupLinesLines.next_line.Goals as goal

pub returns-clause-line : goal.returns-clause-line
returns-clause-line c more = subst IsLine (sym c.in_ok-set_dup_line.ensures) (IsLine-dup_line c.args.self.now.universe.now c.keeps_invariant.ensures.named _ _)
