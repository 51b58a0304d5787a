use Rattle.std.proofs.Common.{ap}
use Rattle.metis_commands.specs.Terms.{Placed}
use Rattle.metis_inputs.specs.declared.asked.PlanAnd.{PlanAnd}
use Rattle.metis_output.proofs.Given.{puts}
use Rattle.metis_commands.proofs.place.put.Goals as goal

pub returns : goal.returns
returns g c =
    let read = c.args.read.now in
    let universe = ap (λ (read : PlanAnd _ _). read.planned.universe) c.read.view_is in
    let actions = ap (λ (read : PlanAnd _ _). read.planned.text.plan.actions) c.read.view_is in
    let text = ap (λ (read : PlanAnd _ _). read.text) c.read.view_is in
    puts g.K.Sink (Placed read.planned.universe read.planned.text.plan.actions read.text) _ c.answer.result _ _ _ (rw (c.deref.ensures.value, universe, actions, text) at c.answer.ensures) c.finish.ensures
