-- Where nothing leaves and the goals are held, nothing is missing, bound anew or made.
use Rattle.std.proofs.Common.{◌≡◌, ℕ, ◌+◌, ◌-◌, ◌≤◌, Bool, true, false, cond, not, List, [], ◌∷◌, ◌++◌, Option, Some, None, map, take, max, append_assoc, refl, sym, ap, ◌∙◌, subst, arith, nat_lt, replicate}
use Rattle.std.specs.Prelude.{fold, nat_le, IsFalse}
use Rattle.std.specs.List.{AllByRecursion, count_by, filter, filter_map, flat_map, range_with_len}
use Rattle.std.specs.Map.{keys_of}
use Rattle.std.specs.Option.{option_map_or}
use Rattle.std.proofs.lemmas.Bool.{and_from, false_from_ne_true, leb-true, le-ltb}
use Rattle.std.proofs.lemmas.List.{append-nil}
use Rattle.metis_ids.specs.declared.actions.Action.{Action}
use Rattle.metis_ids.specs.declared.actions.Action.TheVariants.{Bind}
use Rattle.metis_ids.specs.declared.goals.Goal.{Goal}
use Rattle.metis_completion.specs.Terms.{completed}
use Rattle.metis_ids.proofs.Lists.{has-filter}
use Rattle.metis_planner.proofs.NoTargets.{empty_for_none}
use Rattle.metis_planner.specs.Terms.{IsPlanFor}
use Rattle.metis_rollout.proofs.Rebinding.{each_entry, sorted_unlike}
use Rattle.metis_rollout.specs.Terms.{fresh_name, members, renumbered}
use Rattle.metis_universe.proofs.Demands.{demand_none}
use Rattle.metis_universe.proofs.Served.{count-cons, same_itself}
use Rattle.metis_universe.specs.Terms.{Config, Correct, HoldsGoals, IsConfig, Universe, demand_of, has, is_bound, pair_of, places_of, port_count, provider_of, provides, required_of, requires, same_goal, serves, serving}
use Rattle.metis_wishes.specs.declared.wish.Wish.{Wish}
use Rattle.metis_reconfigure.specs.Terms.{Reconfiguration, before_removal, candidates, fresh_actions, given, gives, lack, lacking, left_by, left_to_plan, missing, missing_behind, pair_for, providers_short, rebinds, rebinds_at, rebinds_of, rebound_actions, rebound_in, serving_among, settled, short, targets, targets_behind, wanted, wants}
use Rattle.metis_reconfigure.proofs.Lists.{by_case, count-append, count-push, passing_more}
use Rattle.metis_reconfigure.proofs.Stays.{in_members, serves_in}

-- ---- lists

filter_all : {X : Type 0} (t : X → Bool) (xs : List X) → ((x : X) → t x ≡ true) → filter t xs ≡ xs
filter_all t [] all = refl
filter_all t (x ∷ xs) all = ap (λ b. cond b (x ∷ filter t xs) (filter t xs)) (all x) ∙ ap (λ ys. x ∷ ys) (filter_all t xs all)

filter_none : {X : Type 0} (t : X → Bool) (xs : List X) → ((x : X) → t x ≡ false) → filter t xs ≡ []
filter_none t [] none = refl
filter_none t (x ∷ xs) none = ap (λ b. cond b (x ∷ filter t xs) (filter t xs)) (none x) ∙ filter_none t xs none

flat_none : {X Y : Type 0} (f : X → List Y) (xs : List X) → ((x : X) → f x ≡ []) → flat_map f xs ≡ []
flat_none f [] none = refl
flat_none f (x ∷ xs) none = ap (λ ys. ys ++ flat_map f xs) (none x) ∙ flat_none f xs none

count_keys : (t : ℕ → Bool) (v : ℕ → Bool) (es : List (ℕ × ℕ)) → AllByRecursion (λ e. v e.0 ≡ t e.1) es → count_by (λ e. t e.1) es ≡ count_by v (keys_of es)
count_keys t v [] same = refl
count_keys t v (e ∷ es) same =
    let one = count-cons (λ (x : ℕ × ℕ). t x.1) e es in
    let two = count-cons v e.0 (keys_of es) in
    let at : cond (v e.0) 1 0 ≡ cond (t e.1) 1 0 = ap {B = ℕ} (λ b. cond b 1 0) same.0 in
    let rest = count_keys t v es same.1 in
    omega (arith, one, two, at, rest)

-- the instances that serve a goal, counted by their numbers
pub serving_members : (u : Universe) (c : Config) (g : Goal) → IsConfig c → serving u c g ≡ serving_among u c (members c) g
serving_members u c g k =
    count_keys (λ p. serves u p g) (serves_in u c g) c.instances
    (each_entry (λ e. serves_in u c g e.0 ≡ serves u e.1 g) c.instances (sorted_unlike (keys_of c.instances) k.ascending) (λ z p there. ap (λ o. option_map_or (λ q. serves u q g) o false) there))

-- ---- goals

none_missing : (u : Universe) (c : Config) (zs : List ℕ) (earlier rest : List Goal) → ((g : Goal) → places_of (earlier ++ rest) g ≤ serving_among u c zs g) → missing_behind u c zs earlier rest ≡ []
none_missing u c zs earlier [] held = refl
none_missing u c zs earlier (x ∷ rest) held =
    let more = earlier ++ x ∷ [] in
    let joined : more ++ rest ≡ earlier ++ x ∷ rest = append_assoc earlier (x ∷ []) rest in
    let still : (g : Goal) → places_of (more ++ rest) g ≤ serving_among u c zs g = λ g. subst (λ gs. places_of gs g ≤ serving_among u c zs g) (sym joined) (held g) in
    let split = count-append (λ y. same_goal y x) more rest in
    let one : places_of more x ≡ places_of earlier x + 1 = count-push (λ y. same_goal y x) earlier x ∙ ap (λ b. places_of earlier x + cond b 1 0) (same_itself x) in
    let enough = still x in
    let many : nat_le (serving_among u c zs x) (places_of earlier x) ≡ false =
    false_from_ne_true (nat_le (serving_among u c zs x) (places_of earlier x)) (λ few. let low = leb-true (serving_among u c zs x) (places_of earlier x) few in omega (arith, low, split, one, enough)) in
    ap (λ b. cond b (x ∷ missing_behind u c zs more rest) (missing_behind u c zs more rest)) many ∙ none_missing u c zs more rest still

module _ (u : Universe) (c : Config) (leaving : List ℕ) (none : (z : ℕ) → IsFalse (has leaving z)) (k : IsConfig c) where
  all_settled : settled c leaving ≡ members c
  all_settled = filter_all (λ z. not (has leaving z)) (members c) (λ z. ap not (none z))

  pub nothing_missing : (goals : List Goal) → HoldsGoals u c goals → missing u c leaving goals ≡ []
  nothing_missing goals held = none_missing u c (settled c leaving) [] goals (λ g.
      subst (λ n. places_of goals g ≤ n) (serving_members u c g k ∙ ap (λ zs. serving_among u c zs g) (sym all_settled)) (held g))

  -- ---- providers

  module _ (correct : Correct u c) where
    enough_bound : (z p r : ℕ) → pair_of c z ≡ Some p → demand_of u p r ≤ count_by (λ y. is_bound c r z y) (given u c leaving r)
    enough_bound z p r there = by_case (requires u p r) (demand_of u p r ≤ count_by (λ y. is_bound c r z y) (given u c leaving r))
        (λ needs.
        let met = correct z p r there needs in
        let many = passing_more (λ y. is_bound c r z y) met.providers (given u c leaving r) met.different (λ y h.
        let by = met.each y h in (
          by.bound,
          has-filter (gives u c r) y (settled c leaving) ∙ and_from (gives u c r y) (has (settled c leaving) y)
              (ap (λ o. option_map_or (λ q. provides u q r) o false) by.there ∙ by.gives) (ap (λ zs. has zs y) all_settled ∙ in_members c y by.pair by.there),
        )) in
        omega (arith, met.enough, many))
        (λ unasked. let nothing = demand_none u p r unasked in omega (arith, nothing))

    pub nothing_lacks : (z r : ℕ) → lack u c leaving z r ≡ 0
    nothing_lacks z r = by (pair_of c z) refl where
      by : (o : Option ℕ) → pair_of c z ≡ o → option_map_or (λ p. demand_of u p r) o 0 - count_by (λ y. is_bound c r z y) (given u c leaving r) ≡ 0
      by None is = omega arith
      by (Some p) is = let enough = enough_bound z p r is in omega (arith, enough)

    none_lacking : (zs : List ℕ) (r : ℕ) → lacking u c leaving zs r ≡ []
    none_lacking zs r = filter_none (λ z. nat_lt 0 (lack u c leaving z r)) zs (λ z. let none_here = nothing_lacks z r in le-ltb 0 (lack u c leaving z r) (omega (arith, none_here)))

    pub nothing_short : (zs ts : List ℕ) (r : ℕ) → short u c leaving zs ts r ≡ 0
    nothing_short zs ts r =
        let nobody : wanted u c leaving zs r ≡ 0 = ap (λ ys. fold max 0 (map (wants u c r) ys)) (none_lacking zs r) in
        omega (arith, nobody)

    none_short : (v : Universe) (zs ts : List ℕ) (r : ℕ) → providers_short u v c leaving zs ts r ≡ []
    none_short v zs ts r = ap (λ n. option_map_or (replicate n) (provider_of v r) []) (nothing_short zs ts r) ∙ by (provider_of v r) where
      by : (o : Option ℕ) → option_map_or (replicate 0) o [] ≡ []
      by None = refl
      by (Some p) = refl

    none_behind : (v : Universe) (zs rs : List ℕ) → targets_behind u v c leaving zs [] rs ≡ []
    none_behind v zs [] = refl
    none_behind v zs (r ∷ rs) = ap (λ ts. targets_behind u v c leaving zs ts rs) (none_short v zs [] r) ∙ none_behind v zs rs

    pub nothing_wanted : (wishes : List Wish) (goals : List Goal) → HoldsGoals u c goals → targets u wishes c leaving goals ≡ []
    nothing_wanted wishes goals held =
        let v = left_to_plan u wishes c leaving in
        ap (λ gs. targets_behind u v c leaving (rebound_in wishes c) (filter_map (pair_for v) gs) (range_with_len 0 (port_count u))) (nothing_missing goals held)
        ∙ none_behind v (rebound_in wishes c) (range_with_len 0 (port_count u))

    none_rebound : (ts : List ℕ) (name : ℕ → ℕ) (z : ℕ) → rebinds_of u c leaving ts name z ≡ []
    none_rebound ts name z = by (pair_of c z) where
      by : (o : Option ℕ) → option_map_or (λ p. flat_map (rebinds_at u c leaving ts name z) (required_of u p)) o [] ≡ []
      by None = refl
      by (Some p) = flat_none (rebinds_at u c leaving ts name z) (required_of u p) (λ r.
          ap (λ n. map (λ y. Bind r z y) (take n (candidates u c leaving ts name z r))) (nothing_lacks z r))

    pub nothing_rebound : (wishes : List Wish) (ts : List ℕ) (name : ℕ → ℕ) → rebinds u wishes c leaving ts name ≡ []
    nothing_rebound wishes ts name = flat_none (rebinds_of u c leaving ts name) (rebound_in wishes c) (none_rebound ts name)

-- ---- the list

-- nothing leaves, and what stands holds the goals
pub record HoldsAll (u : Universe) (old : List Action) (goals : List Goal) (leaving : List ℕ) : Type 0 where
  pub none : (z : ℕ) → IsFalse (has leaving z)
  pub config : IsConfig (left_by u old)
  pub correct : Correct u (left_by u old)
  pub held : HoldsGoals u (left_by u old) goals

module _ (u : Universe) (wishes : List Wish) (old : List Action) (goals : List Goal) (r : Reconfiguration u wishes old goals) (k : HoldsAll u old goals r.leaving) where
  abbrev c : Config
  c = left_by u old

  abbrev ts : List ℕ
  ts = targets u wishes c r.leaving goals

  pub no_targets : ts ≡ []
  no_targets = nothing_wanted u c r.leaving k.none k.config k.correct wishes goals k.held

  pub no_actions : r.plan.actions ≡ []
  no_actions =
      let v = left_to_plan u wishes c r.leaving in
      (empty_for_none v r.plan (subst (λ xs. IsPlanFor v xs r.plan) no_targets r.planned).rounds).0

  pub nothing_made : fresh_actions u old r.leaving r.plan ≡ []
  nothing_made = ap (λ xs. completed u (given u c r.leaving) (renumbered old xs)) no_actions

  pub nothing_bound : rebound_actions u wishes old r.leaving ts r.plan ≡ []
  nothing_bound = nothing_rebound u c r.leaving k.none k.config k.correct wishes ts (fresh_name old r.plan.actions)

  -- the list begins with the removal
  pub nothing_joined : before_removal r ≡ old
  nothing_joined = ap (λ xs. old ++ (xs ++ rebound_actions u wishes old r.leaving ts r.plan)) nothing_made ∙ ap (λ xs. old ++ xs) nothing_bound ∙ append-nil old
