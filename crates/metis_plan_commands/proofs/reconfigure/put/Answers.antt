use Rattle.std.proofs.Common.{ap}
use Rattle.metis_inputs.specs.declared.asked.GoalsPlanAnd.{GoalsPlanAnd}
use Rattle.metis_output.proofs.Given.{puts}
use Rattle.metis_plan_commands.specs.Terms.{Reconfigured}
use Rattle.metis_plan_commands.proofs.reconfigure.put.Goals as goal

pub answer-requires-clause-made : goal.answer-requires-clause-made
answer-requires-clause-made g c =
    let universe = ap (λ (read : GoalsPlanAnd _ _). read.planned.asked.universe) c.read.view_is in
    let goals = ap (λ (read : GoalsPlanAnd _ _). read.planned.asked.goals.items) c.read.view_is in
    let actions = ap (λ (read : GoalsPlanAnd _ _). read.planned.text.plan.actions) c.read.view_is in
    let wishes = ap (λ (read : GoalsPlanAnd _ _). read.text.items) c.read.view_is in
    rw (c.deref.ensures.value, c.deref-2.ensures.value, c.deref-3.ensures.value, universe, goals, actions, wishes) at c.reconfigured-made.ensures.attempted

pub returns : goal.returns
returns g c =
    let planned = c.args.read.now.planned in
    puts g.K.Sink (Reconfigured planned.asked.universe planned.asked.goals.items planned.text.plan.actions c.args.read.now.text.items) _ c.answer.result _ _ _ c.answer.ensures c.finish.ensures
