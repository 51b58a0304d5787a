use Rattle.metis_output.proofs.Given.{puts}
use Rattle.metis_plan_commands.specs.Terms.{Loaded}
use Rattle.metis_plan_commands.proofs.load.put.Goals as goal

pub returns : goal.returns
returns g c = puts g.K.Sink (Loaded c.args.n) _ c.answer.result _ _ _ c.answer.ensures c.finish.ensures
