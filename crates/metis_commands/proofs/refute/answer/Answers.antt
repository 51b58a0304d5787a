use Rattle.std.proofs.Common.{sym, subst}
use Rattle.metis_commands.proofs.RefuteLines.{IsLine-judgement_line}
use Rattle.metis_outside.specs.Terms.{IsLine}
use Rattle.metis_commands.proofs.refute.answer.Goals as goal

pub line_answer-requires : goal.line_answer-requires
line_answer-requires c = subst IsLine (sym c.in_ok-line.ensures) (IsLine-judgement_line c.args.u.now c.keeps_invariant.ensures.named c.check_closed-judgement.result)
