-- What is true of the plan that rounds come to.
use Rattle.std.proofs.Common.{◌≡◌, ℕ, ◌*◌, ◌^◌, zero, suc, ◌≤◌, Bool, true, false, cond, ◌||◌, List, [], ◌∷◌, length, refl, sym, ap, ◌∙◌, subst, arith, nat_eq}
use Rattle.std.specs.List.{All, filter}
use Rattle.std.specs.Prelude.{IsSome, is_some}
use Rattle.std.proofs.Math.Nat.{suc-mul}
use Rattle.std.proofs.lemmas.Bool.{and_from, and_parts, eq-eqb, false≢true, or_left, or_right}
use Rattle.metis_ids.proofs.Orders.{order_sorts, order_without}
use Rattle.metis_ids.specs.Terms.{Plan, order_of}
use Rattle.metis_ids.specs.declared.actions.Action.{Action}
use Rattle.metis_universe.proofs.Rounds.{has-filter}
use Rattle.metis_universe.specs.Terms.{Holds, IsTable, IsTidy, NamesBelow, Universe, after_all, all_pairs, empty, greatest_demand, has, is_enabled, is_free, is_needed, layer_of, layer_set, pair_count, provider_pairs, selected, selected_within}
use Rattle.metis_layers.proofs.Order.{attained_set}
use Rattle.metis_layers.specs.Terms.{attained_pairs, instances_of}
use Rattle.metis_support.proofs.Selections.{layer_is, same_provider_pairs}
use Rattle.metis_support.specs.Terms.{layer_number}
use Rattle.metis_lines.specs.Terms.{AbstractPlan, IsFormed, IsOrder, line_count, own_pairs}
use Rattle.metis_events.proofs.Numbered.{graph_of_plan}
use Rattle.metis_events.specs.Terms.{IsGraphOf}
use Rattle.metis_emit.proofs.Joined.{joined, joined_tidy}
use Rattle.metis_emit.proofs.Least.{least_is_late, least_order}
use Rattle.metis_emit.proofs.Numbered.{least_numbers}
use Rattle.metis_emit.proofs.Short.{short}
use Rattle.metis_emit.specs.Terms.{IsLeastOrder, Realizes, emission}
use Rattle.metis_planner.proofs.Forced.{dups_few, formed_for, lines_bounded, lines_few, providers, sound_for, support}
use Rattle.metis_planner.proofs.Named.{below, emission_below}
use Rattle.metis_planner.proofs.Planning.{has_layer}
use Rattle.metis_planner.specs.Terms.{IsByRounds, IsLean, graph_after, numbered, ordered_events}

-- ---- the selected pairs are no more than the attainable ones

fewer : (t v : ℕ → Bool) (xs : List ℕ) → ((x : ℕ) → has xs x ≡ true → t x ≡ true → v x ≡ true) → length (filter t xs) ≤ length (filter v xs)
fewer t v [] into = omega arith
fewer t v (x ∷ xs) into =
    by_answers (t x) (v x) (into x (or_left (nat_eq x x) (has xs x) (eq-eqb x x refl))) (fewer t v xs (λ y there. into y (or_right (nat_eq x y) (has xs y) there))) where
      by_answers : (a b : Bool) → (a ≡ true → b ≡ true) → length (filter t xs) ≤ length (filter v xs) → length (cond a (x ∷ filter t xs) (filter t xs)) ≤ length (cond b (x ∷ filter v xs) (filter v xs))
      by_answers true true both rest = omega (arith, rest)
      by_answers true false both rest = absurd (false≢true (both refl))
      by_answers false true both rest = omega (arith, rest)
      by_answers false false both rest = rest

kept_of_all : (u : Universe) (t v : ℕ → Bool) → ((x : ℕ) → has (filter t (all_pairs u)) x ≡ true → has (filter v (all_pairs u)) x ≡ true) → length (filter t (all_pairs u)) ≤ length (filter v (all_pairs u))
kept_of_all u t v into = fewer t v (all_pairs u) (λ x there passes. (and_parts (v x) (has (all_pairs u) x) (sym (has-filter v x (all_pairs u)) ∙ into x (has-filter t x (all_pairs u) ∙ and_from (t x) (has (all_pairs u) x) passes there))).0)

within_attained : (u : Universe) (g : List ℕ) (n m : ℕ) → ((x : ℕ) → has (selected_within u g n) x ≡ true → has (layer_set u m) x ≡ true) → length (selected_within u g n) ≤ length (layer_set u m)
within_attained u g zero zero into = kept_of_all u (has g) (is_free u) into
within_attained u g zero (suc m) into = kept_of_all u (has g) (λ q. has (layer_set u m) q || is_enabled u (layer_set u m) q) into
within_attained u g (suc n) zero into = kept_of_all u (λ q. has (selected_within u g n) q || is_needed u (selected_within u g n) q) (is_free u) into
within_attained u g (suc n) (suc m) into = kept_of_all u (λ q. has (selected_within u g n) q || is_needed u (selected_within u g n) q) (λ q. has (layer_set u m) q || is_enabled u (layer_set u m) q) into

more_times : (n k m : ℕ) → n ≤ k → n * m ≤ k * m
more_times zero k m low = omega arith
more_times (suc n) zero m low = absurd (omega (arith, low))
more_times (suc n) (suc k) m low = let rest = more_times n k m (omega (arith, low)) in omega (arith, rest, suc-mul n m, suc-mul k m)

module _ (u : Universe) (table : IsTable u) (g : List ℕ) (layered : (p : ℕ) → has g p ≡ true → IsSome (layer_of u p)) where
  selected_layered : (x : ℕ) → has (selected u g) x ≡ true → has (attained_pairs u) x ≡ true
  selected_layered x there = sym (has_layer u x) ∙ ap is_some (sym (layer_is u table.universe g layered x there)) ∙ (support u table g layered).layer x there

  module _ (p : Plan) (by : IsByRounds u g p) where
    abbrev w : AbstractPlan
    w = graph_after u g p.dups

    abbrev actions_now : List Action
    actions_now = emission u w (ordered_events w)

    formed : IsFormed u w
    formed = formed_for u table g layered (own_pairs p.dups) (providers u table g layered p.dups by.forced)

    of : IsGraphOf w (numbered w)
    of = graph_of_plan u w formed

    least : IsLeastOrder w (ordered_events w)
    least =
        let order = order_without (numbered w) of.within by.ended in
        least_numbers w (numbered w) of (order_of (numbered w)) order (order_sorts (numbered w) (order_of (numbered w)) of.within order)

    order : IsOrder w (ordered_events w)
    order = least_order u w (ordered_events w) least

    own : (q : ℕ) → has (own_pairs p.dups) q ≡ true → has (provider_pairs u g) q ≡ true
    own q there = ap (λ ps. has ps q) (sym (same_provider_pairs u table.universe g layered)) ∙ providers u table g layered p.dups by.forced q there

    pub lean : IsLean u p.instances g
    lean =
        let count = by.instances in
        let few = lines_few u table g layered p.dups by.forced in
        let attained = within_attained u g (pair_count u) (pair_count u) selected_layered in
        let times = more_times (length (selected u g)) (length (attained_pairs u)) (greatest_demand u) attained in
        record { attained = attained_pairs u; all = attained_set u table.universe; few = omega (arith, count, few, times) }

    pub bounded : length g ≤ 256 → p.instances ≤ 32256
    bounded small = omega (arith, by.instances, lines_bounded u table g layered p.dups by.forced small)

    pub dups_at_most : length p.dups ≤ p.instances
    dups_at_most = omega (arith, dups_few u table g layered p.dups by.forced, by.instances)

    pub named : length g ≤ 256 → All (NamesBelow (2 ^ 32)) p.actions
    named small =
        let few = lines_bounded u table g layered p.dups by.forced small in
        subst (All (NamesBelow (2 ^ 32))) (sym by.actions) (below (line_count w) (omega arith) actions_now (emission_below u w formed (ordered_events w) order))

    -- ---- what the actions come to

    realized : Realizes u w actions_now × Holds (after_all u empty actions_now) g
    realized = joined u g (own_pairs p.dups) (ordered_events w) table.universe layered own order

    pub realizes : Realizes u w p.actions
    realizes = subst (Realizes u w) (sym by.actions) realized.0

    pub holds : Holds (after_all u empty p.actions) g
    holds = subst (λ l. Holds (after_all u empty l) g) (sym by.actions) realized.1

    pub tidy : IsTidy u g (after_all u empty p.actions)
    tidy = subst (λ l. IsTidy u g (after_all u empty l)) (sym by.actions) (joined_tidy u g (own_pairs p.dups) (ordered_events w) table.universe layered own order (least_is_late u w (ordered_events w) least))

    pub instances_counted : p.instances ≡ instances_of p.actions
    instances_counted = by.instances ∙ sym realizes.instances

    pub short_enough : length p.actions ≤ 321 * p.instances
    short_enough = omega (arith, short u (layer_number u) w (ordered_events w) table (sound_for u table g layered (own_pairs p.dups) (providers u table g layered p.dups by.forced)) order, ap length by.actions, by.instances)
