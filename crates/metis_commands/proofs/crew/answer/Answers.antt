use Rattle.std.proofs.Common.{◌∙◌, false, ap, inr, refl}
use Rattle.metis_commands.proofs.CrewLines.{all_left}
use Rattle.metis_commands.specs.Terms.{lines_left}
use Rattle.metis_crew.specs.Terms.{CrewState, start}
use Rattle.metis_commands.proofs.crew.answer.Goals as goal

pub returns-in_ok-new-in-Ok : goal.returns-in_ok-new-in-Ok
returns-in_ok-new-in-Ok c =
    let actions = c.args.actions.now in
    let zs = c.args.turns.now in
    let steady = rw c.in-Ok.is at c.requires in
    inr (inr (record {
      run = steady.0;
      told = ap (λ (s : CrewState). lines_left s.actions s.counts zs false) c.in_ok-new-in-Ok.ensures ∙ all_left actions (start actions) zs;
      is = refl;
    }))
