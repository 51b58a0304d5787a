use Rattle.std.proofs.Common.{codes, refl, sym, subst}
use Rattle.metis_commands.proofs.GoalLine.{IsLine-word_line}
use Rattle.metis_outside.specs.Terms.{IsLine}
use Rattle.metis_commands.proofs.audit.not_attained.Goals as goal

pub line_answer-requires : goal.line_answer-requires
line_answer-requires c = subst IsLine (sym c.in_ok-line.ensures) (IsLine-word_line c.args.u.now c.keeps_invariant.ensures.named (codes "notattained") c.args.lacks refl)
