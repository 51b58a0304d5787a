use Rattle.metis_inputs.proofs.OneText.{goals_no_text, goals_text}
use Rattle.metis_inputs.proofs.inputs.goals_and_from.Goals as goal

pub returns-in-Ok : goal.returns-in-Ok
returns-in-Ok g c =
    goals_text g.T.Text _ _ _ c.args.command.now _ _ _ c.args.place _
    (rw (c.file.ensures, c.targets.ensures.words) at c.in_ok-asked.ensures) (rw c.file-2.ensures at c.in-Ok.ensures.gathers)

pub returns-in-Err : goal.returns-in-Err
returns-in-Err g c =
    goals_no_text g.T.Text _ _ _ c.args.command.now _ _ _ c.args.place c.in_ok-asked.asked _
    (rw (c.file.ensures, c.targets.ensures.words) at c.in_ok-asked.ensures) (rw c.file-2.ensures at c.in-Err.ensures.gathers)
