use Rattle.std.proofs.lemmas.Result.{err_from_is_err_and}
use Rattle.metis_inputs.proofs.OneText.{no_plan, plan_no_text, plan_text}
use Rattle.metis_inputs.specs.Terms.{universe_and_said}
use Rattle.metis_inputs.proofs.inputs.plan_and.Goals as goal

pub returns-in-Ok : goal.returns-in-Ok
returns-in-Ok g c =
    plan_text g.T.Text _ _ _ c.args.command.now _ _ _ _
    c.in_ok-planned.ensures (rw c.file.ensures at c.in-Ok.ensures.gathers)

pub returns-in-Err : goal.returns-in-Err
returns-in-Err g c =
    plan_no_text g.T.Text _ _ _ c.args.command.now _ _ _ universe_and_said c.in_ok-planned.planned _
    c.in_ok-planned.ensures (rw c.file.ensures at c.in-Err.ensures.gathers)

pub returns-in_err-planned : goal.returns-in_err-planned
returns-in_err-planned g c =
    let stops = err_from_is_err_and c.from_residual.result c.from_residual.ensures.1 in
    rw stops.1 (rw stops.2 (no_plan g.T.Text _ _ _ c.args.command.now _ _ universe_and_said _ c.in_err-planned.ensures))
