use Rattle.metis_commands.specs.Terms.{Audited}
use Rattle.metis_output.proofs.Given.{puts}
use Rattle.metis_commands.proofs.audit.put.Goals as goal

pub returns : goal.returns
returns g c =
    let read = c.args.read.now in
    puts g.K.Sink (Audited read.asked.universe read.asked.goals.items read.text.plan _) _ c.answer.result _ _ _ (rw c.deref.ensures.value at c.answer.ensures) c.finish.ensures
