use Rattle.std.proofs.Common.{inr, refl}
use Rattle.metis_commands.proofs.waits.answer.Goals as goal

pub returns-in-Ok : goal.returns-in-Ok
returns-in-Ok c =
    let u = c.args.u.now in
    let plan = c.args.plan.now in
    let steady = rw c.in-Ok.is at c.requires.steady in
    let formed = c.requires.formed.1 in
    inr (inr (record {
      run = steady.0;
      told = c.lines_of_plan.ensures;
      formed = c.written_run_is_well_formed.ensures u plan c.keeps_invariant.ensures steady.0.run formed.actions formed.dups formed.cycles formed.in_range formed.instances formed.few_actions formed.few_dups;
      is = refl;
    }))
