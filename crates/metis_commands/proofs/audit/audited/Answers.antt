use Rattle.std.proofs.Common.{sym, subst}
use Rattle.metis_commands.proofs.AuditLines.{IsLine-audit_line}
use Rattle.metis_outside.specs.Terms.{IsLine}
use Rattle.metis_commands.proofs.audit.audited.Goals as goal

pub line_answer-requires : goal.line_answer-requires
line_answer-requires c =
    subst IsLine (sym c.in_ok-line.ensures) (IsLine-audit_line c.args.u.now c.keeps_invariant.ensures.named c.args.text.now.plan c.in_ok-answer.answer)
