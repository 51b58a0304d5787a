use Rattle.metis_commands.specs.Terms.{Judged}
use Rattle.metis_output.proofs.Given.{puts}
use Rattle.metis_commands.proofs.refute.put.Goals as goal

pub returns : goal.returns
returns g c =
    let read = c.args.read.now in
    puts g.K.Sink (Judged read.asked.universe read.asked.goals.items read.text.pairs.members) _ c.answer.result _ _ _ (rw c.deref.ensures.value at c.answer.ensures) c.finish.ensures
