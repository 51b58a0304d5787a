use Rattle.std.proofs.Common.{◌≡◌, length, drop, ltb, take, sym, ap, ◌∙◌, subst, arith}
use Rattle.std.specs.List.{filter}
use Rattle.metis_universe.specs.Terms.{IsUniverse, Pair, Universe, states_of_type}
use Rattle.metis_universe.proofs.Sought.{from_start}
use Rattle.metis_universe.proofs.TypePlaces.{rises, start_in, together}
use Rattle.metis_universe.proofs.universe.Universe.first_of.Goals as goal

pub overflow_cast-result : goal.overflow_cast-result
overflow_cast-result c =
    let is = c.start_of.ensures ∙ ap (λ ps. length (filter (λ (p : Pair). ltb p.kind c.args.t) ps)) c.deref.ensures.value in
    omega (arith, is, together c.args.t c.self.inside.pairs.items, c.self.invariant.limits.pairs)

pub returns : goal.returns
returns c =
    let u = c.args.self.now in
    let is : c.start_of.result ≡ start_in u c.args.t = c.start_of.ensures ∙ ap (λ ps. length (filter (λ (p : Pair). ltb p.kind c.args.t) ps)) c.deref.ensures.value ∙ ap (λ (u : Universe). start_in u c.args.t) c.self.view_is in
    sym (ap (λ n. take (length (states_of_type u c.args.t)) (drop n u.pairs)) is ∙ from_start c.args.t u.pairs (rises u.pairs (subst IsUniverse c.self.view_is c.self.invariant.universe).by_type))
