use Rattle.std.proofs.Common.{sym, subst}
use Rattle.metis_outside.specs.Terms.{IsLine}
use Rattle.metis_steady.proofs.SteadyLines.{IsLine-bad_line, IsLine-loose_line}
use Rattle.metis_steady.proofs.steady.unsteady_line.Goals as goal

pub of-requires : goal.of-requires
of-requires c = subst IsLine (sym c.in_ok-bad_line-in-Bad.ensures) (IsLine-bad_line c.args.u.now c.keeps_invariant.ensures.named c.in-Bad.number c.in-Bad.fault)

pub of-requires-in-Loose : goal.of-requires-in-Loose
of-requires-in-Loose c = subst IsLine (sym c.in_ok-number_line-in-Loose.ensures) (IsLine-loose_line c.in-Loose.number)
