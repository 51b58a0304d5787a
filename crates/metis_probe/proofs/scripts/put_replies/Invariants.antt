use Rattle.std.proofs.Common.{◌≡◌}
use Rattle.metis_probe.proofs.scripts.put_replies.Given as goal

abbrev pub invariant-loop-line : goal.invariant-loop-line
invariant-loop-line l = l.session.universe ≡ l.u
