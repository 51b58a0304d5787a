use Rattle.std.proofs.Common.{false, subst}
use Rattle.metis_ids.specs.declared.events.Event.{Event}
use Rattle.metis_rounds.proofs.Steps.{met_popped}
use Rattle.std.specs.BTreeSet.{UpdatesBy}
use Rattle.metis_rounds.proofs.walk.Walk.pop.Goals as goal

pub invariant_of-self : goal.invariant_of-self
invariant_of-self c =
    let old = c.self.inside.met in
    let e = c.in-Some.e in
    let changed = subst (λ (cmp : Event → Event → _). UpdatesBy cmp (cmp e) old c.remove.new.self false) (λ i a b. c.events_are_ordered.ensures a b i) c.remove.ensures.updates in
    met_popped old.keys c.remove.new.self.keys c.self.inside.steps.items c.pop.new.self.items e c.in-Some.ensures.items c.self.invariant changed.0
