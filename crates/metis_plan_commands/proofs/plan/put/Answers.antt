use Rattle.metis_output.proofs.Given.{puts}
use Rattle.metis_plan_commands.specs.Terms.{PlanAnswer}
use Rattle.metis_plan_commands.proofs.plan.put.Goals as goal

pub returns : goal.returns
returns g c =
    let asked = c.args.asked.now in
    puts g.K.Sink (PlanAnswer asked.universe asked.goals.items) _ c.answer.result _ _ _ c.answer.ensures c.finish.ensures
