use Rattle.std.proofs.Common.{sym, subst}
use Rattle.metis_commands.proofs.ConfirmLines.{IsLine-confirmation_line, sayable}
use Rattle.metis_outside.specs.Terms.{IsLine}
use Rattle.metis_commands.proofs.confirm.answer.Goals as goal

pub confirmation_line-requires : goal.confirmation_line-requires
confirmation_line-requires c =
    sayable c.args.u.now c.args.lines.now c.args.goals.now c.confirm-confirmation.result c.requires.few c.requires.within c.confirm-confirmation.ensures.verdict

pub line_answer-requires : goal.line_answer-requires
line_answer-requires c = subst IsLine (sym c.in_ok-line.ensures) (IsLine-confirmation_line c.args.u.now c.keeps_invariant.ensures.named c.confirm-confirmation.result)
