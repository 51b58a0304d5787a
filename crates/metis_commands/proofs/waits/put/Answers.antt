use Rattle.metis_commands.specs.Terms.{Awaited}
use Rattle.metis_output.proofs.Given.{puts}
use Rattle.metis_commands.proofs.waits.put.Goals as goal

pub returns : goal.returns
returns g c =
    let read = c.args.read.now in
    puts g.K.Sink (Awaited read.universe read.text.plan) _ c.answer.result _ _ _ c.answer.ensures c.finish.ensures
