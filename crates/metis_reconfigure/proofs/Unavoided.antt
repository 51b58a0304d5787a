-- Where nothing is avoided and the goals are attained, no missing goal is unavoidable, and each port that is short has a provider.
use Rattle.std.proofs.Common.{◌≡◌, ℕ, ◌<◌, Bool, true, false, cond, not, ◌||◌, List, [], ◌∷◌, ◌++◌, Option, Some, None, ◌⊎◌, length, map, max, refl, sym, ap, ◌∙◌, subst, arith, nat_lt, inl, inr}
use Rattle.std.specs.Prelude.{fold, is_some, nat_le, IsFalse, IsSome, IsTrue}
use Rattle.std.specs.List.{All, filter_map, range_with_len}
use Rattle.std.specs.Option.{option_map_or}
use Rattle.std.proofs.lemmas.Bool.{and_from, both_ways, false_from_ne_true, ltb-true, not-false}
use Rattle.std.proofs.lemmas.List.Elements.{All-cons, All-head, All-nil, All-tail}
use Rattle.metis_ids.specs.declared.actions.Action.{Action}
use Rattle.metis_ids.specs.declared.goals.Goal.{Goal}
use Rattle.metis_ids.specs.declared.goals.Goal.TheVariants.{Pair, Port}
use Rattle.metis_choice.proofs.Resolving.{attained_where_none}
use Rattle.metis_completion.proofs.Attaining.{layer_still, provider_still}
use Rattle.metis_ids.proofs.Lists.{has-filter, some_member}
use Rattle.metis_layers.proofs.LayerFacts.{layer_by, layer_pair, provider_by}
use Rattle.metis_layers.specs.Terms.{attained_pairs}
use Rattle.metis_universe.proofs.Attained.{Closed-layers}
use Rattle.metis_universe.proofs.Demands.{demand_none, one_provider}
use Rattle.metis_universe.proofs.Inside.{IsInside-after_all, IsInside-empty}
use Rattle.metis_universe.proofs.Kept.{IsConfig-empty}
use Rattle.metis_universe.proofs.Places.{Correct-empty}
use Rattle.metis_universe.specs.Terms.{AttainsGoals, Config, Correct, IsRun, IsUniverse, Universe, after, after_all, all_pairs, demand_of, empty, has, is_provided, lacks, layer_of, pair_count, pair_of, places_of, port_count, provider_of, provides, requires, residual}
use Rattle.metis_wishes.specs.Terms.{avoided, is_avoided}
use Rattle.metis_wishes.specs.declared.wish.Wish.{Wish}
use Rattle.metis_reconfigure.specs.Terms.{AreMet, given, is_unavoidable, lack, lacking, left_by, left_to_plan, missing, missing_behind, pair_for, providers_short, rebound_in, serving_among, settled, short, wanted, wants}
use Rattle.metis_reconfigure.proofs.Lists.{by_case}

-- ---- over the whole universe

-- what is attained over the universe has a layer
pub attained_layer : (u : Universe) (p : ℕ) → has (attained_pairs u) p ≡ true → IsSome (layer_of u p)
attained_layer u p h = subst IsSome (sym (layer_by u p (pair_count u) h).is) refl

-- a port that an attained pair provides has a provider
pub attained_provider : (u : Universe) (r y : ℕ) → has (attained_pairs u) y ≡ true → provides u y r ≡ true → IsSome (provider_of u r)
attained_provider u r y h gives =
    let l = layer_by u y (pair_count u) h in
    subst IsSome (sym (provider_by u r y l.layer l.is gives).is) refl

-- missing goals are goals
missing_among : (P : Goal → Type 0) (u : Universe) (c : Config) (zs : List ℕ) (earlier goals : List Goal) → All P goals → All P (missing_behind u c zs earlier goals)
missing_among P u c zs earlier [] all = all
missing_among P u c zs earlier (x ∷ goals) all =
    let rest = missing_among P u c zs (earlier ++ x ∷ []) goals (All-tail P x goals all) in
    elim (nat_le (serving_among u c zs x) (places_of earlier x)) as (λ b. All P (cond b (x ∷ missing_behind u c zs (earlier ++ x ∷ []) goals) (missing_behind u c zs (earlier ++ x ∷ []) goals))) [
      | true ↦ All-cons P x (missing_behind u c zs (earlier ++ x ∷ []) goals) (All-head P x goals all) rest
      | false ↦ rest
    ]

-- ---- where nothing is avoided

module _ (u : Universe) (wishes : List Wish) (c : Config) (leaving : List ℕ) (none : avoided u wishes ≡ []) where
  abbrev w : Universe
  w = residual u (λ r. length (given u c leaving r)) []

  all_left : w ≡ left_to_plan u wishes c leaving
  all_left = ap (λ ps. residual u (λ r. length (given u c leaving r)) ps) (sym none)

  not_avoided : (p : ℕ) → has (all_pairs u) p ≡ true → is_avoided u wishes p ≡ false
  not_avoided p there = false_from_ne_true (is_avoided u wishes p) (λ h. both_ways (has (avoided u wishes) p) (ap (λ ps. has ps p) none)
      (has-filter (is_avoided u wishes) p (all_pairs u) ∙ and_from (is_avoided u wishes p) (has (all_pairs u) p) h there))

  avoidable : (g : Goal) → lacks u (attained_pairs u) g ≡ false → is_unavoidable u wishes w g ≡ false
  avoidable (Pair p) there =
      let at = not-false (has (attained_pairs u) p) there in
      let l = layer_by u p (pair_count u) at in
      neither (is_avoided u wishes p) (layer_of w p) (not_avoided p (layer_pair u p l.layer l.is)) (layer_still u (λ r. length (given u c leaving r)) p (attained_layer u p at)) where
        neither : (b : Bool) (o : Option ℕ) → b ≡ false → IsSome o → (b || not (is_some o)) ≡ false
        neither b o off some = ap (λ x. x || not (is_some o)) off ∙ ap not some
  avoidable (Port r) there =
      let at = some_member (λ y. provides u y r) (attained_pairs u) (not-false (is_provided u (attained_pairs u) r) there) in
      ap not (provider_still u (λ s. length (given u c leaving s)) r (attained_provider u r at.0 at.1 at.2))

  -- no missing goal is unavoidable
  pub none_unavoidable : (goals : List Goal) → IsUniverse u → AttainsGoals u goals → All (λ g. IsFalse (is_unavoidable u wishes (left_to_plan u wishes c leaving) g)) (missing u c leaving goals)
  none_unavoidable goals k attained =
      subst (λ v. All (λ g. IsFalse (is_unavoidable u wishes v g)) (missing u c leaving goals)) all_left
      (missing_among (λ g. IsFalse (is_unavoidable u wishes w g)) u c (settled c leaving) [] goals (each goals ((attained_where_none u k goals).0 attained))) where
        each : (gs : List Goal) → All (λ g. IsFalse (lacks u (attained_pairs u) g)) gs → All (λ g. IsFalse (is_unavoidable u wishes w g)) gs
        each [] all = All-nil (λ g. IsFalse (is_unavoidable u wishes w g))
        each (g ∷ gs) all =
            All-cons (λ x. IsFalse (is_unavoidable u wishes w x)) g gs (avoidable g (All-head (λ x. IsFalse (lacks u (attained_pairs u) x)) g gs all))
            (each gs (All-tail (λ x. IsFalse (lacks u (attained_pairs u) x)) g gs all))

  -- ---- providers

  module _ (correct : Correct u c) (inside : (z p : ℕ) → pair_of c z ≡ Some p → IsTrue (has (attained_pairs u) p)) where
    -- who lacks a port has a provider of it, so some pair that is attained provides it
    lacking_provided : (z r : ℕ) → 0 < lack u c leaving z r → IsSome (provider_of u r)
    lacking_provided z r lacks_some = by (pair_of c z) refl (λ o. lacks_some) where
      demanded : (p : ℕ) → pair_of c z ≡ Some p → 0 < demand_of u p r
      demanded p is =
          let at : option_map_or (λ q. demand_of u q r) (pair_of c z) 0 ≡ demand_of u p r = ap (λ o. option_map_or (λ q. demand_of u q r) o 0) is in
          omega (arith, at, lacks_some)

      by : (o : Option ℕ) → pair_of c z ≡ o → (Option ℕ → 0 < lack u c leaving z r) → IsSome (provider_of u r)
      by None is more =
          let at : option_map_or (λ q. demand_of u q r) (pair_of c z) 0 ≡ 0 = ap (λ o. option_map_or (λ q. demand_of u q r) o 0) is in
          absurd (omega (arith, at, more None))
      by (Some p) is more =
          let needs : requires u p r ≡ true = by_case (requires u p r) (requires u p r ≡ true) (λ h. h) (λ off. absurd (let nothing = demand_none u p r off in let some = demanded p is in omega (arith, nothing, some))) in
          let one = one_provider u c z p r needs (correct z p r is needs) in
          attained_provider u r one.1.pair (inside one.0 one.1.pair one.1.there) one.1.gives

    short_provided : (zs ts : List ℕ) (r : ℕ) → (short u c leaving zs ts r ≡ 0) ⊎ IsSome (provider_of u r)
    short_provided zs ts r = by zs where
      nobody : lacking u c leaving zs r ≡ [] → short u c leaving zs ts r ≡ 0
      nobody is = let none_wanted : wanted u c leaving zs r ≡ 0 = ap (λ ys. fold max 0 (map (wants u c r) ys)) is in omega (arith, none_wanted)

      by_list : (ys : List ℕ) → (lacking u c leaving ys r ≡ []) ⊎ IsSome (provider_of u r)
      by_list [] = inl refl
      by_list (y ∷ ys) = by_case (nat_lt 0 (lack u c leaving y r)) ((lacking u c leaving (y ∷ ys) r ≡ []) ⊎ IsSome (provider_of u r))
          (λ some. inr (lacking_provided y r (ltb-true 0 (lack u c leaving y r) some)))
          (λ none_here. elim (by_list ys) [
            | inl rest ↦ inl (ap (λ b. cond b (y ∷ lacking u c leaving ys r) (lacking u c leaving ys r)) none_here ∙ rest)
            | inr there ↦ inr there
          ])

      by : List ℕ → (short u c leaving zs ts r ≡ 0) ⊎ IsSome (provider_of u r)
      by _ = elim (by_list zs) [
        | inl is ↦ inl (nobody is)
        | inr there ↦ inr there
      ]

    all_met : (v : Universe) → ((r : ℕ) → IsSome (provider_of u r) → IsSome (provider_of v r)) → (zs ts rs : List ℕ) → AreMet u v c leaving zs ts rs
    all_met v still zs ts [] = tt
    all_met v still zs ts (r ∷ rs) = (
      elim (short_provided zs ts r) [
        | inl nothing ↦ inl nothing
        | inr there ↦ inr (still r there)
      ],
      all_met v still zs (ts ++ providers_short u v c leaving zs ts r) rs,
    )

    -- each port that is short has a provider
    pub all_short_met : (goals : List Goal) → let v = left_to_plan u wishes c leaving in
        AreMet u v c leaving (rebound_in wishes c) (filter_map (pair_for v) (missing u c leaving goals)) (range_with_len 0 (port_count u))
    all_short_met goals =
        let still : (r : ℕ) → IsSome (provider_of u r) → IsSome (provider_of (left_to_plan u wishes c leaving) r) =
        subst (λ v. (r : ℕ) → IsSome (provider_of u r) → IsSome (provider_of v r)) all_left (provider_still u (λ r. length (given u c leaving r))) in
        let v = left_to_plan u wishes c leaving in
        all_met v still (rebound_in wishes c) (filter_map (pair_for v) (missing u c leaving goals)) (range_with_len 0 (port_count u))

-- what a run leaves is correct, and in pairs that are attained
correct_end : (u : Universe) (c : Config) (xs : List Action) → Correct u c → IsRun u c xs → Correct u (after_all u c xs)
correct_end u c [] k run = k
correct_end u c (a ∷ xs) k run = correct_end u (after u c a) xs run.1 run.2

pub met_after_run : (u : Universe) (wishes : List Wish) (old : List Action) (leaving : List ℕ) (goals : List Goal) → IsUniverse u → IsRun u empty old → avoided u wishes ≡ []
    → let c = left_by u old in let v = left_to_plan u wishes c leaving in
    AreMet u v c leaving (rebound_in wishes c) (filter_map (pair_for v) (missing u c leaving goals)) (range_with_len 0 (port_count u))
met_after_run u wishes old leaving goals k run none =
    all_short_met u wishes (left_by u old) leaving none (correct_end u empty old (Correct-empty u) run)
    (IsInside-after_all u (attained_pairs u) empty old (Closed-layers u k) IsConfig-empty (IsInside-empty (attained_pairs u)) run) goals
