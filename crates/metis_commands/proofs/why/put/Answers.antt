use Rattle.metis_commands.specs.Terms.{WhyAnswer}
use Rattle.metis_output.proofs.Given.{puts}
use Rattle.metis_commands.proofs.why.put.Goals as goal

pub returns : goal.returns
returns g c =
    let read = c.args.asked.now in
    puts g.K.Sink (WhyAnswer read.universe read.goals.items) _ c.answer.result _ _ _ c.answer.ensures c.finish.ensures
