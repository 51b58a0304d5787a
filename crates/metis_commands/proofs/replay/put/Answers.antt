use Rattle.std.proofs.Common.{ap}
use Rattle.metis_commands.specs.Terms.{Replayed}
use Rattle.metis_inputs.specs.declared.asked.GoalsAnd.{GoalsAnd}
use Rattle.metis_output.proofs.Given.{puts}
use Rattle.metis_commands.proofs.replay.put.Goals as goal

pub returns : goal.returns
returns g c =
    let read = c.args.read.now in
    let universe = ap (λ (read : GoalsAnd _ _). read.asked.universe) c.read.view_is in
    let goals = ap (λ (read : GoalsAnd _ _). read.asked.goals.items) c.read.view_is in
    let actions = ap (λ (read : GoalsAnd _ _). read.text.plan.actions) c.read.view_is in
    puts g.K.Sink (Replayed read.asked.universe read.asked.goals.items read.text.plan.actions) _ c.answer.result _ _ _ (rw (c.deref.ensures.value, c.deref-2.ensures.value, universe, goals, actions) at c.answer.ensures) c.finish.ensures
