use Rattle.std.proofs.Common.{◌≡◌, ◌∙◌, None, ap, rules, sym}
use Rattle.metis_inputs.proofs.NamedGoals.{stops_at}
use Rattle.metis_inputs.specs.Terms.{goal_of, judged}
use Rattle.metis_inputs.proofs.reading.goals_in.Goals as goal

pub returns-in-None-clause-judges : goal.returns-in-None-clause-judges
returns-in-None-clause-judges c = λ next.
    let target = c.index-targets-k.result in
    let none : goal_of c.args.u.now target ≡ None = search rules in
    ap (judged next) (sym c.loop-k.invariant.rest ∙ stops_at c.args.u.now c.loop-k.goals.items c.args.place c.loop-k.k c.args.targets.now target c.loop-k-test.true c.index-targets-k.is none)
