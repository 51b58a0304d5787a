use Rattle.std.proofs.Common.{[], ◌∷◌, ◌∙◌, ap, refl, string_bytes, subst, sym}
use Rattle.metis_outside.specs.Terms.{IsLine}
use Rattle.metis_output.specs.declared.status.Status.TheVariants.{ReadFault}
use Rattle.metis_top.proofs.StopLines.{IsLine-fault_line, IsLine-read_fault_line}
use Rattle.metis_top.specs.Terms.{StopSays}
use Rattle.metis_top.proofs.stop.stop_line.Goals as goal

pub returns-in_ok-line-in-Faulty-clause-line : goal.returns-in_ok-line-in-Faulty-clause-line
returns-in_ok-line-in-Faulty-clause-line c =
    let told = sym c.is_told.ensures ∙ c.if-not-is_told.false in
    subst IsLine (sym c.in_ok-line-in-Faulty.ensures) (IsLine-fault_line c.in-Faulty.fault told)

pub returns-in_ok-line-in-Failed-clause-line : goal.returns-in_ok-line-in-Failed-clause-line
returns-in_ok-line-in-Failed-clause-line c = subst IsLine (sym c.in_ok-line-in-Failed.ensures) (IsLine-read_fault_line c.in-Failed.place)

pub returns-in_ok-line-in-Failed-clause-says : goal.returns-in_ok-line-in-Failed-clause-says
returns-in_ok-line-in-Failed-clause-says c =
    subst (λ stop. StopSays stop (string_bytes c.in_ok-line-in-Failed.line ∷ []) ReadFault) (sym c.in-Failed.is) (ap (λ line. line ∷ []) c.in_ok-line-in-Failed.ensures, refl)
