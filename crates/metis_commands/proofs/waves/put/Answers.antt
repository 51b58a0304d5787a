use Rattle.std.proofs.Common.{ap}
use Rattle.metis_commands.specs.Terms.{Waved}
use Rattle.metis_inputs.specs.declared.asked.UniverseAnd.{UniverseAnd}
use Rattle.metis_output.proofs.Given.{puts}
use Rattle.metis_commands.proofs.waves.put.Goals as goal

pub returns : goal.returns
returns g c =
    let read = c.args.read.now in
    let universe = ap (λ (read : UniverseAnd _ _). read.universe) c.read.view_is in
    let actions = ap (λ (read : UniverseAnd _ _). read.text.plan.actions) c.read.view_is in
    puts g.K.Sink (Waved read.universe read.text.plan.actions c.args.numbers.now) _ c.answer-answer.result _ _ _ (rw (c.deref.ensures.value, universe, actions) at c.answer-answer.ensures) c.finish.ensures
