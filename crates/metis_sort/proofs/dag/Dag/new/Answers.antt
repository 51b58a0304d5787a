use Rattle.std.proofs.Common.{◌≡◌, ℕ, ◌<◌, [], List, length, get_or, ap, ◌∙◌, sym, subst}
use Rattle.std.specs.List.{filter}
use Rattle.std.proofs.lemmas.List.{get_or_default}
use Rattle.std.proofs.lemmas.Result.{IfOk-weaker}
use Rattle.metis_ids.specs.Terms.{Graph, IsGraph, befores, edge_count, joins, occurrences}
use Rattle.metis_sort.specs.Terms.{HasEdgesOf, ascending}
use Rattle.metis_sort.proofs.DagFacts.{afters_within, befores_ascend, befores_is, ends_within, has_edges}
use Rattle.metis_sort.proofs.dag.Dag.new.Goals as goal

pub turned-requires-clause-within : goal.turned-requires-clause-within
turned-requires-clause-within c =
    let graph : Graph = record { nodes = c.args.n; edges = c.args.edges.items; last = c.args.last } in
    let ok : IsGraph graph = record { last = c.requires.last; from = c.requires.from; to = c.requires.to } in
    let ends = c.in_ok-ends.ends in
    let counts : (a b : ℕ) → b < graph.nodes → occurrences a (get_or ends b []) ≡ edge_count graph a b = λ a b low. c.in_ok-ends.ensures.counts a b low ∙ ap (λ (es : List (ℕ × ℕ)). length (filter (joins a b) es)) c.deref.ensures.value in
    let size = c.in_ok-ends.ensures.size in
    ends_within graph ok ends size counts

pub turned-requires-2-clause-within : goal.turned-requires-2-clause-within
turned-requires-2-clause-within c =
    let graph : Graph = record { nodes = c.args.n; edges = c.args.edges.items; last = c.args.last } in
    let ok : IsGraph graph = record { last = c.requires.last; from = c.requires.from; to = c.requires.to } in
    let ends = c.in_ok-ends.ends in
    let counts : (a b : ℕ) → b < graph.nodes → occurrences a (get_or ends b []) ≡ edge_count graph a b = λ a b low. c.in_ok-ends.ensures.counts a b low ∙ ap (λ (es : List (ℕ × ℕ)). length (filter (joins a b) es)) c.deref.ensures.value in
    let size = c.in_ok-ends.ensures.size in
    let turned = c.in_ok-after.ensures in
    afters_within graph ok ends size counts c.in_ok-after.after turned.size turned.rows

pub of_befores-requires-clause-rows : goal.of_befores-requires-clause-rows
of_befores-requires-clause-rows c = λ k d low.
    let graph : Graph = record { nodes = c.args.n; edges = c.args.edges.items; last = c.args.last } in
    let ok : IsGraph graph = record { last = c.requires.last; from = c.requires.from; to = c.requires.to } in
    let ends = c.in_ok-ends.ends in
    let counts : (a b : ℕ) → b < graph.nodes → occurrences a (get_or ends b []) ≡ edge_count graph a b = λ a b low. c.in_ok-ends.ensures.counts a b low ∙ ap (λ (es : List (ℕ × ℕ)). length (filter (joins a b) es)) c.deref.ensures.value in
    let size = c.in_ok-ends.ensures.size in
    let turned = c.in_ok-after.ensures in
    let again = c.in_ok-before.ensures in
    let same : length c.in_ok-before.before ≡ c.args.n = again.size ∙ turned.size ∙ size in
    let each : (b : ℕ) → b < c.args.n → get_or c.in_ok-before.before b [] ≡ befores graph b = befores_is graph ok ends size counts c.in_ok-after.after turned.size turned.rows c.in_ok-before.before again.rows in
    let plain = get_or_default c.in_ok-before.before k d [] low in
    ap (ascending (length c.in_ok-before.before)) plain ∙ befores_ascend graph ok c.in_ok-before.before same each k low ∙ sym plain

pub returns : goal.returns
returns c =
    let graph : Graph = record { nodes = c.args.n; edges = c.args.edges.items; last = c.args.last } in
    let ok : IsGraph graph = record { last = c.requires.last; from = c.requires.from; to = c.requires.to } in
    let ends = c.in_ok-ends.ends in
    let counts : (a b : ℕ) → b < graph.nodes → occurrences a (get_or ends b []) ≡ edge_count graph a b = λ a b low. c.in_ok-ends.ensures.counts a b low ∙ ap (λ (es : List (ℕ × ℕ)). length (filter (joins a b) es)) c.deref.ensures.value in
    let size = c.in_ok-ends.ensures.size in
    let turned = c.in_ok-after.ensures in
    let again = c.in_ok-before.ensures in
    let same : length c.in_ok-before.before ≡ c.args.n = again.size ∙ turned.size ∙ size in
    let each : (b : ℕ) → b < c.args.n → get_or c.in_ok-before.before b [] ≡ befores graph b = befores_is graph ok ends size counts c.in_ok-after.after turned.size turned.rows c.in_ok-before.before again.rows in
    IfOk-weaker c.of_befores.result _ _ (λ made is. subst (HasEdgesOf graph) (sym is) (has_edges graph ok c.in_ok-before.before same each)) c.of_befores.ensures
