use Rattle.std.proofs.Common.{length, sym, subst}
use Rattle.metis_commands.proofs.ReplayLines.{IsLine-verdict_line}
use Rattle.metis_outside.specs.Terms.{IsLine}
use Rattle.metis_commands.proofs.replay.answer.Goals as goal

pub line_answer-requires : goal.line_answer-requires
line_answer-requires c =
    subst IsLine (sym c.in_ok-line-in-Ok.ensures) (IsLine-verdict_line c.args.u.now c.keeps_invariant.ensures.named c.in-Ok.standing (length c.args.actions.now) c.in-Ok.verdict)
