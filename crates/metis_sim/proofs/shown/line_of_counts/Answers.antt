use Rattle.std.proofs.Common.{sym, subst}
use Rattle.metis_outside.specs.Terms.{IsLine}
use Rattle.metis_sim.proofs.ReplyFeeds.{IsLine-counts_line}
use Rattle.metis_sim.proofs.shown.line_of_counts.Goals as goal

pub of-requires : goal.of-requires
of-requires c = subst IsLine (sym c.in_ok-counts_line.ensures) (IsLine-counts_line c.args.c.now)
