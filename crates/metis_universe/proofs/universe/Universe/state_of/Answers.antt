use Rattle.std.proofs.Common.{◌≡◌, length, ltb, arith, ap, ◌∙◌, subst}
use Rattle.std.specs.List.{filter}
use Rattle.metis_universe.specs.Terms.{IsUniverse, IsWithinLimits, Pair, Universe}
use Rattle.metis_universe.proofs.TypePlaces.{start_in, start_and_place}
use Rattle.metis_universe.proofs.universe.Universe.state_of.Goals as goal

pub overflow_cast-result : goal.overflow_cast-result
overflow_cast-result c =
    let k = subst IsUniverse c.self.view_is c.self.invariant.universe in
    let few = (subst IsWithinLimits c.self.view_is c.self.invariant.limits).pairs in
    let start : c.start_of-start.result ≡ start_in c.args.self.now c.type_of.result =
    c.start_of-start.ensures ∙ ap (λ ps. length (filter (λ (p : Pair). ltb p.kind c.type_of.result) ps)) c.deref.ensures.value ∙ ap (λ (u : Universe). start_in u c.type_of.result) c.self.view_is in
    let place = start_and_place c.args.self.now k c.args.p c.requires in
    let own = ap (start_in c.args.self.now) c.type_of.ensures.kind in
    omega (arith, few, start, own, place)

pub overflow_sub-result : goal.overflow_sub-result
overflow_sub-result c =
    let k = subst IsUniverse c.self.view_is c.self.invariant.universe in
    let start : c.start_of-start.result ≡ start_in c.args.self.now c.type_of.result =
    c.start_of-start.ensures ∙ ap (λ ps. length (filter (λ (p : Pair). ltb p.kind c.type_of.result) ps)) c.deref.ensures.value ∙ ap (λ (u : Universe). start_in u c.type_of.result) c.self.view_is in
    let place = start_and_place c.args.self.now k c.args.p c.requires in
    let own = ap (start_in c.args.self.now) c.type_of.ensures.kind in
    omega (arith, start, own, place, c.p.view_is)

pub returns : goal.returns
returns c =
    let k = subst IsUniverse c.self.view_is c.self.invariant.universe in
    let start : c.start_of-start.result ≡ start_in c.args.self.now c.type_of.result =
    c.start_of-start.ensures ∙ ap (λ ps. length (filter (λ (p : Pair). ltb p.kind c.type_of.result) ps)) c.deref.ensures.value ∙ ap (λ (u : Universe). start_in u c.type_of.result) c.self.view_is in
    let place = start_and_place c.args.self.now k c.args.p c.requires in
    let own = ap (start_in c.args.self.now) c.type_of.ensures.kind in
    omega (arith, start, own, place, c.p.view_is)
