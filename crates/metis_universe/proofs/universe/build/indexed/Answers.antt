use Rattle.std.proofs.Common.{◌≤◌, ◌<◌, List, length, ◌≡◌, sym, ap, ◌∙◌, subst, ℕ, arith}
use Rattle.std.specs.List.{All}
use Rattle.metis_universe.specs.Terms.{IsIndexed, Pair, kinds_of, port_count, port_rows, universe_of}
use Rattle.metis_universe.proofs.PortRows.{IsIndexed-port_rows, provided_within, required_within}
use Rattle.metis_universe.proofs.universe.build.indexed.Goals as goal

pub index_rows-requires-clause-provided : goal.index_rows-requires-clause-provided
index_rows-requires-clause-provided c =
    let u = universe_of c.args.version (kinds_of c.args.kinds c.args.initials.items) c.args.pairs.items c.args.ports in
    let count : c.count.result ≡ port_count u = c.count.ensures in
    subst (λ n. All (λ (x : Pair). All (λ r. r < n) x.provided) c.deref.result.now) (sym count)
    (subst (λ (ps : List Pair). All (λ (x : Pair). All (λ r. r < port_count u) x.provided) ps) (sym c.deref.ensures.value) (provided_within u c.requires.universe))

pub index_rows-requires-clause-required : goal.index_rows-requires-clause-required
index_rows-requires-clause-required c =
    let u = universe_of c.args.version (kinds_of c.args.kinds c.args.initials.items) c.args.pairs.items c.args.ports in
    let count : c.count.result ≡ port_count u = c.count.ensures in
    subst (λ n. All (λ (x : Pair). All (λ r. r < n) x.required) c.deref.result.now) (sym count)
    (subst (λ (ps : List Pair). All (λ (x : Pair). All (λ r. r < port_count u) x.required) ps) (sym c.deref.ensures.value) (required_within u c.requires.universe))

pub index_rows-requires-clause-few : goal.index_rows-requires-clause-few
index_rows-requires-clause-few c =
    let few : length c.args.pairs.items ≤ 2000 = c.requires.limits.pairs in
    let same : length c.deref.result.now ≡ length c.args.pairs.items = ap length c.deref.ensures.value in
    omega arith

pub invariant_of-result : goal.invariant_of-result
invariant_of-result c =
    let u = universe_of c.args.version (kinds_of c.args.kinds c.args.initials.items) c.args.pairs.items c.args.ports in
    let count : c.count.result ≡ port_count u = c.count.ensures in
    let providers = c.in_ok-providers.ensures.providers ∙ (λ j. port_rows (λ x. x.provided) (count j) (c.deref.ensures.value j)) in
    let requirers = c.in_ok-providers.ensures.requirers ∙ (λ j. port_rows (λ x. x.required) (count j) (c.deref.ensures.value j)) in
    record {
      universe = c.requires.universe;
      named = c.requires.named;
      limits = c.requires.limits;
      indexed = subst {A = List (List ℕ) × List (List ℕ)} (λ rows. IsIndexed u rows.0 rows.1) (sym (λ j. (providers j, requirers j))) (IsIndexed-port_rows u c.requires.universe);
    }
