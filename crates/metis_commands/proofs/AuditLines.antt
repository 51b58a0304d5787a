-- The line of an audit is a line.
use Rattle.std.proofs.Common.{length, refl}
use Rattle.std.specs.Prelude.{codes}
use Rattle.metis_audit.specs.declared.answers.Answer.{Answer as AuditAnswer}
use Rattle.metis_audit.specs.declared.answers.Answer.TheVariants as audit
use Rattle.metis_output.proofs.LineWords.{by_number, by_two}
use Rattle.metis_ids.specs.Terms.{Plan}
use Rattle.metis_ids.specs.declared.goals.Goal.TheVariants.{Pair}
use Rattle.metis_outside.specs.Terms.{IsLine}
use Rattle.metis_universe.specs.Terms.{IsNamed, Universe}
use Rattle.metis_commands.proofs.GoalLine.{IsLine-word_line}
use Rattle.metis_commands.specs.Terms.{audit_line}

module _ (u : Universe) (named : IsNamed u) where
  pub IsLine-audit_line : (plan : Plan) (a : AuditAnswer) → IsLine (audit_line u plan a)
  IsLine-audit_line plan audit.Justified = by_two (codes "justified instances ") plan.instances (codes " dups ") (length plan.dups) refl refl
  IsLine-audit_line plan (audit.NotAttained p) = IsLine-word_line u named (codes "notattained") (Pair p) refl
  IsLine-audit_line plan (audit.NoCycle k) = by_number (codes "nocycle ") k refl
  IsLine-audit_line plan (audit.Count have want) = by_two (codes "count have ") have (codes " want ") want refl refl
  IsLine-audit_line plan (audit.Path l) = by_number (codes "path ") l refl
  IsLine-audit_line plan (audit.Loose k) = by_number (codes "loose ") k refl
  IsLine-audit_line plan (audit.After k) = by_number (codes "after ") k refl
