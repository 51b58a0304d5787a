use Rattle.std.proofs.Common.{sym, subst}
use Rattle.metis_outside.specs.Terms.{IsLine}
use Rattle.metis_sim.proofs.ReplyFeeds.{IsLine-instance_line}
use Rattle.metis_sim.proofs.shown.InstanceLinesLineAt.set_line.Goals as goal

pub returns-clause-line : goal.returns-clause-line
returns-clause-line c = subst IsLine (sym c.in_ok-set_instance_line.ensures) (IsLine-instance_line c.args.self.now.universe.now c.keeps_invariant.ensures.named _)
