-- For targets that some actions attain, rounds come to a plan.
use Rattle.std.proofs.Common.{◌≡◌, ℕ, zero, suc, ◌+◌, ◌*◌, ◌<◌, ◌≤◌, ◌⊎◌, Bool, true, false, cond, List, [], ◌∷◌, ◌++◌, Option, Some, None, length, refl, sym, ap, ◌∙◌, subst, arith, nat_eq, inl, inr}
use Rattle.std.specs.Prelude.{IsSome}
use Rattle.std.specs.List.{count_by, filter}
use Rattle.std.proofs.lemmas.Bool.{eqb-true, false≢true, or_cases}
use Rattle.std.proofs.lemmas.List.Sums.{length-filter}
use Rattle.std.proofs.lemmas.List.{length-append}
use Rattle.metis_ids.specs.Terms.{Dup, HasCycle, Plan, cycle_of, stuck}
use Rattle.metis_ids.proofs.Orders.{stuck_without_cycle}
use Rattle.metis_ids.proofs.Walks.{cycle_of-cycle}
use Rattle.metis_universe.specs.Terms.{Attainable, Attains, IsTable, IsUniverse, Universe, greatest_demand, has, layer_of}
use Rattle.metis_layers.proofs.Order.{attained_set}
use Rattle.metis_events.proofs.Numbered.{graph_of_plan}
use Rattle.metis_lines.specs.Terms.{line_count, lines_for, own_pairs}
use Rattle.metis_emit.specs.Terms.{emission}
use Rattle.metis_rounds.specs.Terms.{IsForced, cycle_of_events, doubled_by}
use Rattle.metis_rounds.proofs.Cycles.{cycle_is_round}
use Rattle.metis_rounds.proofs.Leads.{round_doubles_over}
use Rattle.metis_planner.proofs.Forced.{dups_few, formed_for, lines_few, lines_for_own, providers, s, support}
use Rattle.metis_planner.proofs.Planning.{has_layer}
use Rattle.metis_planner.proofs.UnderWay.{forced_push}
use Rattle.metis_planner.specs.Terms.{AreForced, IsByRounds, graph_after, numbered, ordered_events}

module _ (u : Universe) (table : IsTable u) (g : List ℕ) (layered : (p : ℕ) → has g p ≡ true → IsSome (layer_of u p)) where
  -- a cycle, or none
  some_cycle : (ds : List Dup) → AreForced u g ds → HasCycle (numbered (graph_after u g ds)) ⊎ (HasCycle (numbered (graph_after u g ds)) → ⊥)
  some_cycle ds forced =
      let w = graph_after u g ds in
      let ok = (graph_of_plan u w (formed_for u table g layered (own_pairs ds) (providers u table g layered ds forced))).within in
      elim (some_or_none (stuck (numbered w))) [
        | inl none ↦ inr ((stuck_without_cycle (numbered w) ok).0 none)
        | inr some ↦ inl (cycle_of (numbered w), cycle_of-cycle (numbered w) some)
      ] where
        some_or_none : (xs : List ℕ) → (xs ≡ []) ⊎ (0 < length xs)
        some_or_none [] = inl refl
        some_or_none (x ∷ xs) = inr (omega arith)

  -- a cycle forces a dup
  forced_next : (ds : List Dup) → AreForced u g ds → HasCycle (numbered (graph_after u g ds)) → (d : Dup) × IsForced (graph_after u g ds) d
  forced_next ds forced stuck =
      let w = graph_after u g ds in
      let own = providers u table g layered ds forced in
      let round = cycle_is_round u w (formed_for u table g layered (own_pairs ds) own) stuck in
      by (doubled_by w (cycle_of_events w)) refl (λ none. round_doubles_over u (s u table g layered) (lines_for u g (own_pairs ds)) table.universe (support u table g layered) (lines_for_own u table g layered (own_pairs ds) own) (cycle_of_events w) round none) where
        by : (o : Option ℕ) → doubled_by (graph_after u g ds) (cycle_of_events (graph_after u g ds)) ≡ o → (doubled_by (graph_after u g ds) (cycle_of_events (graph_after u g ds)) ≡ None → ⊥) → (d : Dup) × IsForced (graph_after u g ds) d
        by None e some = absurd (some e)
        by (Some p) e some = (record { pair = p; cycle = cycle_of_events (graph_after u g ds) }, record { stuck = stuck; cycle = refl; pair = e })

  -- there are fewer dups than this
  abbrev most : ℕ
  most = length g + length (s u table g layered).selected.members * greatest_demand u + 1

  come_to : (n : ℕ) (ds : List Dup) → AreForced u g ds → length ds + n ≡ most → (p : Plan) × IsByRounds u g p
  come_to zero ds forced total = absurd (let few = dups_few u table g layered ds forced in let lines = lines_few u table g layered ds forced in omega arith)
  come_to (suc n) ds forced total = elim (some_cycle ds forced) [
    | inr none ↦ (
      record { actions = emission u (graph_after u g ds) (ordered_events (graph_after u g ds)); dups = ds; instances = line_count (graph_after u g ds) },
      record { forced = forced; ended = none; actions = refl; instances = refl },
    )
    | inl stuck ↦
        let next = forced_next ds forced stuck in
        come_to n (ds ++ next.0 ∷ []) (forced_push u g ds next.0 forced next.1) (let more = length-append ds (next.0 ∷ []) in omega arith)
  ]

  pub come_to_a_plan : (p : Plan) × IsByRounds u g p
  come_to_a_plan = come_to most [] (λ k d is. absurd (none_some d is)) (omega arith) where
    none_some : (d : Dup) → None ≡ Some d → ⊥
    none_some d h = cc

-- ---- targets that are attained have layers

count_one : (t : ℕ → Bool) (g : List ℕ) (p : ℕ) → has g p ≡ true → t p ≡ true → 1 ≤ length (filter t g)
count_one t [] p there passes = absurd (false≢true there)
count_one t (x ∷ g) p there passes = elim (or_cases (nat_eq x p) (has g p) there) [
  | inl now ↦ let here : t x ≡ true = ap t (eqb-true x p now) ∙ passes in subst (λ b. 1 ≤ length (cond b (x ∷ filter t g) (filter t g))) (sym here) (omega arith)
  | inr later ↦ more (t x) (count_one t g p later passes)
] where
  more : (b : Bool) → 1 ≤ length (filter t g) → 1 ≤ length (cond b (x ∷ filter t g) (filter t g))
  more true h = omega arith
  more false h = h

one_of : (g : List ℕ) (p q : ℕ) → has g p ≡ true → count_by (λ x. nat_eq x q) (p ∷ []) ≤ count_by (λ x. nat_eq x q) g
one_of g p q there =
    let t : ℕ → Bool = λ x. nat_eq x q in
    let one = length-filter t (p ∷ []) in
    let all = length-filter t g in
    elim (nat_eq p q) as (λ b. nat_eq p q ≡ b → count_by t (p ∷ []) ≤ count_by t g) [
      | true ↦ λ is. let some = count_one t g p there is in let few = ap (λ b. length (cond b (p ∷ []) [])) is in omega (arith, one, all, some, few)
      | false ↦ λ is. let none = ap (λ b. length (cond b (p ∷ []) [])) is in omega (arith, one, all, none)
    ] refl

pub attained_layered : (u : Universe) → IsUniverse u → (g : List ℕ) → Attains u g → (p : ℕ) → has g p ≡ true → IsSome (layer_of u p)
attained_layered u k g attained p there =
    let alone : Attainable u p = (attained.0, attained.1, λ q. let few = one_of g p q there in omega (arith, attained.2 q)) in
    has_layer u p ∙ (attained_set u k).all p alone
