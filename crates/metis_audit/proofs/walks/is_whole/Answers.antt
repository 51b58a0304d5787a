use Rattle.std.proofs.Common.{subst}
use Rattle.metis_lines.specs.Terms.{line_at}
use Rattle.metis_audit.proofs.WalkFacts.{off_not_whole}
use Rattle.metis_audit.specs.Terms.{IsWalk}
use Rattle.metis_audit.proofs.walks.is_whole.Goals as goal

pub returns-in-None : goal.returns-in-None
returns-in-None c = λ pairs walk. off_not_whole (line_at c.args.l.now c.args.line) pairs (subst (IsWalk (line_at c.args.l.now c.args.line) pairs) c.in-None.is walk)
