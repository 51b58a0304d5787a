-- Before the removal each bind goes to a settled instance, or to a fresh one that is then in a pair that is not avoided.
use Rattle.std.proofs.Common.{◌≡◌, ◌⊎◌, ℕ, true, false, ◌||◌, List, [], ◌∷◌, ◌++◌, Option, Some, None, length, map, replicate, refl, sym, ap, ◌∙◌, subst, arith, nat_eq, append_assoc, inl, inr}
use Rattle.std.specs.List.{All, AllByRecursion, cons_option, filter_map, range_with_len, slice_index_or}
use Rattle.std.specs.Option.{option_map_or}
use Rattle.std.proofs.lemmas.Bool.{and_from, and_parts, both_ways, cases_lt, eq-eqb, eqb-true, false_from_ne_true, false≢true, not-true, or_cases, or_left, or_parts, or_right}
use Rattle.std.proofs.lemmas.List.{get_or_past}
use Rattle.std.proofs.lemmas.List.Elements.{recursion_from_All}
use Rattle.std.proofs.lemmas.List.Folds.{list_any-append}
use Rattle.metis_ids.specs.declared.actions.Action.{Action}
use Rattle.metis_ids.specs.declared.actions.Action.TheVariants.{New, Delete, Bind, Unbind, Move}
use Rattle.metis_ids.specs.declared.goals.Goal.{Goal}
use Rattle.metis_ids.specs.declared.goals.Goal.TheVariants.{Pair, Port}
use Rattle.metis_ids.proofs.Lists.{has-append, has-filter, has-replicate, has_at, has_range, has_take}
use Rattle.metis_ids.proofs.Options.{IsSome_at}
use Rattle.metis_layers.proofs.Going.{GoesOn, after_all-append, at}
use Rattle.metis_layers.specs.Terms.{slot_binds, slot_unbinds}
use Rattle.metis_universe.specs.Terms.{Binding, Config, IsSteadfastRun, IsUniverse, Universe, after_all, all_pairs, empty, has, is_new, is_tie, layered, no_pair, pair_count, pair_of, port_count, provider_of, provides, tie}
use Rattle.metis_completion.proofs.Avoiding.{bound_unavoided}
use Rattle.metis_completion.proofs.Binding.{ties}
use Rattle.metis_completion.proofs.Completion.{completion}
use Rattle.metis_completion.proofs.GivenSlots.{given_ties-are, given_ties-own}
use Rattle.metis_completion.proofs.ResidualRows.{provided_unavoided, residual_after_all}
use Rattle.metis_completion.specs.Terms.{AreGiven, completed, completed_action, given_gained, given_holder}
use Rattle.metis_rollout.proofs.Going.{going_from_steady, steady_from_going}
use Rattle.metis_rollout.proofs.Quiet.{find_some, is_in}
use Rattle.metis_rollout.proofs.Together.{touches_own}
use Rattle.metis_rollout.proofs.Touching.{At, pair_touched}
use Rattle.metis_rollout.specs.Terms.{bind, is_made, renumbered}
use Rattle.metis_wishes.specs.Terms.{avoided, is_avoided}
use Rattle.metis_wishes.specs.declared.wish.Wish.{Wish}
use Rattle.metis_reconfigure.specs.Terms.{GoesWell, IsAnswered, Reconfiguration, binds_at, fresh_actions, fresh_givers, given, is_bind, is_unavoidable, left_by, left_to_plan, missing, pair_for, providers_short, rebinds_in, rebound_in, settled, short, targets, targets_behind}
use Rattle.metis_reconfigure.proofs.Given.{given_ones, is_given}
use Rattle.metis_reconfigure.proofs.Joined.{are_targets, besides, c_config, name, name_unused, new_steady, target_named, ties as anew_ties, unused}
use Rattle.metis_reconfigure.proofs.Keeping.{anew_are, anew_bind}
use Rattle.metis_reconfigure.proofs.Rebound.{fresh_giver, in_rebinds, is_candidate}

-- ---- a list that is split at an element

-- the element is of the first part, or of the second
split_at : (xs ys earlier rest : List Action) (b : Action) → xs ++ ys ≡ earlier ++ b ∷ rest
    → ((more : List Action) × (xs ≡ earlier ++ b ∷ more)) ⊎ ((before : List Action) × (earlier ≡ xs ++ before) × (ys ≡ before ++ b ∷ rest))
split_at [] ys earlier rest b is = inr (earlier, refl, is)
split_at (x ∷ xs) ys [] rest b is = inl (xs, let same : x ≡ b = cc in ap (λ a. a ∷ xs) same)
split_at (x ∷ xs) ys (e ∷ earlier) rest b is =
    let first : x ≡ e = cc in
    let others : xs ++ ys ≡ earlier ++ b ∷ rest = cc in
    elim (split_at xs ys earlier rest b others) [
      | inl one ↦ inl (one.0, λ i. first i ∷ one.1 i)
      | inr two ↦ inr (two.0, λ i. sym first i ∷ two.1 i, two.2)
    ]

one_only : (a b : Action) (earlier rest : List Action) → a ∷ [] ≡ earlier ++ b ∷ rest → (a ≡ b) × (earlier ≡ [])
one_only a b [] rest is = (cc, refl)
one_only a b (e ∷ []) rest is = cc
one_only a b (e ∷ f ∷ earlier) rest is = cc

-- the element is in the list
bound_in : (earlier rest : List Action) (s z y : ℕ) → binds_at (earlier ++ Bind s z y ∷ rest) s z y ≡ true
bound_in earlier rest s z y = list_any-append (is_bind s z y) earlier (Bind s z y ∷ rest)
    ∙ or_right (binds_at earlier s z y) _ (or_left _ _ (and_from _ _ (and_from _ _ (eq-eqb s s refl) (eq-eqb z z refl)) (eq-eqb y y refl)))

-- the first of the steady list's actions are steady
front_goes : (u : Universe) (earlier xs ys : List Action) → GoesOn u earlier (xs ++ ys) → GoesOn u earlier xs
front_goes u earlier [] ys go = tt
front_goes u earlier (x ∷ xs) ys go = (go.0, go.1, go.2, front_goes u (earlier ++ x ∷ []) xs ys go.3)

-- binds leave each instance in its pair
binds_keep : (u : Universe) (c : Config) (bs : List Binding) (earlier rest : List Action) (y : ℕ) → map bind bs ≡ earlier ++ rest → pair_of (after_all u c earlier) y ≡ pair_of c y
binds_keep u c bs [] rest y is = refl
binds_keep u c [] (a ∷ earlier) rest y is = cc
binds_keep u c (b ∷ bs) (a ∷ earlier) rest y is =
    let first : a ≡ bind b = cc in
    let others : map bind bs ≡ earlier ++ rest = cc in
    ap (λ x. pair_of (after_all u c (x ∷ earlier)) y) first ∙ binds_keep u (tie c b.0 b.1 b.2) bs earlier rest y others

-- ---- a bind of a completed list is one of the list, or goes to a given instance

module _ (u : Universe) (c : Config) (g : ℕ → List ℕ) (given_are : AreGiven u c g) where
  none_unbound : (z : ℕ) (slots : List (ℕ × ℕ)) (s x y : ℕ) → binds_at (slot_unbinds (given_holder g) z slots) s x y ≡ false
  none_unbound z [] s x y = refl
  none_unbound z (k ∷ slots) s x y = none_unbound z slots s x y

  slots_bound : (z : ℕ) (slots : List (ℕ × ℕ)) (s x y : ℕ) → binds_at (slot_binds (given_holder g) z slots) s x y ≡ is_in (ties (given_holder g) z slots) s x y
  slots_bound z [] s x y = refl
  slots_bound z (k ∷ slots) s x y = ap (λ b. is_tie s x y (k.0, z, given_holder g k.0 k.1) || b) (slots_bound z slots s x y)

  -- before a move
  moved_given : (z p q s x y : ℕ) → binds_at (completed_action u g (Move z p q)) s x y ≡ true → has (g s) y ≡ true
  moved_given z p q s x y h =
      let up = given_gained u g p q in
      let parts = list_any-append (is_bind s x y) (slot_binds (given_holder g) z up) (Move z p q ∷ slot_unbinds (given_holder g) z (given_gained u g q p)) in
      elim (or_cases _ _ (sym parts ∙ h)) [
        | inl bound ↦
            let tied = sym (slots_bound z up s x y) ∙ bound in
            let own = given_ties-own u g given_are.ascend z p q s x y tied in
            let gained = sym (given_ties-are u g given_are.ascend z p q s y) ∙ subst (λ w. is_in (ties (given_holder g) z up) s w y ≡ true) (sym own) tied in
            has_take (g s) _ y (and_parts _ _ gained).0
        | inr other ↦ absurd (both_ways _ (none_unbound z (given_gained u g q p) s x y) other)
      ]

  abbrev IsOne : List Action → List Action → ℕ → ℕ → ℕ → Type 0
  IsOne xs earlier s z y = (has (g s) y ≡ true) ⊎ ((front : List Action) × (back : List Action) × (xs ≡ front ++ Bind s z y ∷ back) × (earlier ≡ completed u g front))

  own_action : (a : Action) (xs earlier more : List Action) (s z y : ℕ) → completed_action u g a ≡ earlier ++ Bind s z y ∷ more → IsOne (a ∷ xs) earlier s z y
  own_action (New x t) xs earlier more s z y is = let one = one_only (New x t) (Bind s z y) earlier more is in absurd (let same = one.0 in cc)
  own_action (Delete x) xs earlier more s z y is = let one = one_only (Delete x) (Bind s z y) earlier more is in absurd (let same = one.0 in cc)
  own_action (Bind t x w) xs earlier more s z y is =
      let one = one_only (Bind t x w) (Bind s z y) earlier more is in
      inr ([], xs, ap (λ a. a ∷ xs) one.0, one.1)
  own_action (Unbind t x w) xs earlier more s z y is = let one = one_only (Unbind t x w) (Bind s z y) earlier more is in absurd (let same = one.0 in cc)
  own_action (Move x p q) xs earlier more s z y is = inl (moved_given x p q s z y (ap (λ l. binds_at l s z y) is ∙ bound_in earlier more s z y))

  pub completed_at : (xs earlier rest : List Action) (s z y : ℕ) → completed u g xs ≡ earlier ++ Bind s z y ∷ rest → IsOne xs earlier s z y
  completed_at [] [] rest s z y is = cc
  completed_at [] (e ∷ earlier) rest s z y is = cc
  completed_at (a ∷ xs) earlier rest s z y is = elim (split_at (completed_action u g a) (completed u g xs) earlier rest (Bind s z y) is) [
    | inl here ↦ own_action a xs earlier here.0 s z y here.1
    | inr later ↦ elim (completed_at xs later.0 rest s z y later.2) [
      | inl old ↦ inl old
      | inr found ↦ inr (a ∷ found.0, found.1, ap (λ l. a ∷ l) found.2, later.1 ∙ ap (λ l. completed_action u g a ++ l) found.3)
    ]
  ]

-- ---- no target is an avoided pair

module _ (u : Universe) (wishes : List Wish) (c : Config) (leaving : List ℕ) where
  abbrev v : Universe
  v = left_to_plan u wishes c leaving

  unavoided : (p s : ℕ) → provides u p s ≡ true → has (avoided u wishes) p ≡ false → is_avoided u wishes p ≡ false
  unavoided p s gives_it off = false_from_ne_true _ (λ is. both_ways _ off (has-filter (is_avoided u wishes) p (all_pairs u) ∙ and_from _ _ is (low p s gives_it))) where
    low : (p s : ℕ) → provides u p s ≡ true → has (all_pairs u) p ≡ true
    low p s h = elim (cases_lt p (pair_count u)) [
      | inl less ↦ has_range 0 (pair_count u) p (omega arith) (omega arith)
      | inr past ↦ absurd (false≢true (ap (λ row. has row.provided s) (sym (get_or_past u.pairs p no_pair past)) ∙ h))
    ]

  provider_unavoided : (s p : ℕ) → provider_of v s ≡ Some p → has (avoided u wishes) p ≡ false
  provider_unavoided s p is = not-true _ (provided_unavoided u (λ t. length (given u c leaving t)) (avoided u wishes) p s (find_some (λ q. provides v q s) (layered v) p is).1)

  abbrev AllOff : List ℕ → Type 0
  AllOff ts = (p : ℕ) → has ts p ≡ true → has (avoided u wishes) p ≡ false

  firsts_off : (gs : List Goal) → AllByRecursion (λ g. is_unavoidable u wishes v g ≡ false) gs → AllOff (filter_map (pair_for v) gs)
  firsts_off [] all p h = absurd (false≢true h)
  firsts_off (Pair q ∷ gs) all p h = elim (or_cases (nat_eq q p) (has (filter_map (pair_for v) gs) p) h) [
    | inl now ↦ subst (λ n. has (avoided u wishes) n ≡ false) (eqb-true q p now)
        (false_from_ne_true _ (λ is. both_ways _ (or_parts (is_avoided u wishes q) _ all.0).0 (and_parts (is_avoided u wishes q) _ (sym (has-filter (is_avoided u wishes) q (all_pairs u)) ∙ is)).0))
    | inr later ↦ firsts_off gs all.1 p later
  ]
  firsts_off (Port s ∷ gs) all p h = by (provider_of v s) refl (firsts_off gs all.1 p) h where
    by : (o : Option ℕ) → provider_of v s ≡ o → (has (filter_map (pair_for v) gs) p ≡ true → has (avoided u wishes) p ≡ false) → has (cons_option o (filter_map (pair_for v) gs)) p ≡ true → has (avoided u wishes) p ≡ false
    by None is more g = more g
    by (Some q) is more g = elim (or_cases (nat_eq q p) (has (filter_map (pair_for v) gs) p) g) [
      | inl now ↦ subst (λ n. has (avoided u wishes) n ≡ false) (eqb-true q p now) (provider_unavoided s q is)
      | inr later ↦ more later
    ]

  behind_off : (zs ts ps : List ℕ) → AllOff ts → AllOff (targets_behind u v c leaving zs ts ps)
  behind_off zs ts [] off = off
  behind_off zs ts (s ∷ ps) off = behind_off zs (ts ++ providers_short u v c leaving zs ts s) ps (λ p h. elim (or_cases (has ts p) _ (sym (has-append ts (providers_short u v c leaving zs ts s) p) ∙ h)) [
    | inl old ↦ off p old
    | inr more ↦ by (provider_of v s) refl p more
  ]) where
    by : (o : Option ℕ) → provider_of v s ≡ o → (p : ℕ) → has (option_map_or (replicate (short u c leaving zs ts s)) o []) p ≡ true → has (avoided u wishes) p ≡ false
    by None is p g = absurd (false≢true g)
    by (Some q) is p g = subst (λ n. has (avoided u wishes) n ≡ false) (has-replicate (short u c leaving zs ts s) q p g) (provider_unavoided s q is)

  pub targets_off : (goals : List Goal) → All (λ g. is_unavoidable u wishes v g ≡ false) (missing u c leaving goals) → AllOff (targets u wishes c leaving goals)
  targets_off goals all = behind_off (rebound_in wishes c) (filter_map (pair_for v) (missing u c leaving goals)) (range_with_len 0 (port_count u))
      (firsts_off (missing u c leaving goals) (recursion_from_All (λ g. is_unavoidable u wishes v g ≡ false) (missing u c leaving goals) all))

-- ---- each bind

module _ (u : Universe) (k : IsUniverse u) (wishes : List Wish) (old : List Action) (goals : List Goal) (r : Reconfiguration u wishes old goals) (ans : IsAnswered u wishes old goals r) where
  abbrev s0 : IsSteadfastRun u old
  s0 = ans.steady

  abbrev c : Config
  c = left_by u old

  abbrev ts : List ℕ
  ts = targets u wishes c r.leaving goals

  abbrev g : ℕ → List ℕ
  g = given u c r.leaving

  abbrev left : Universe
  left = left_to_plan u wishes c r.leaving

  abbrev again : List Action
  again = renumbered old r.plan.actions

  abbrev fresh : List Action
  fresh = fresh_actions u old r.leaving r.plan

  steady_again : IsSteadfastRun left again
  steady_again = new_steady u k wishes old s0 r.leaving r.leave ts r.plan r.planned

  are_given : AreGiven u c g
  are_given = given_ones u wishes c (c_config u k wishes old s0 r.leaving r.leave ts r.plan r.planned) r.leaving r.leave

  given_well : (s y : ℕ) → has (g s) y ≡ true → has (settled c r.leaving) y ≡ true
  given_well s y h = (is_given u wishes c (c_config u k wishes old s0 r.leaving r.leave ts r.plan r.planned) r.leaving r.leave s y h).1

  fresh_well : (earlier rest : List Action) (s z y : ℕ) → fresh ≡ earlier ++ Bind s z y ∷ rest → GoesWell r earlier s y
  fresh_well earlier rest s z y is = elim (completed_at u c g are_given again earlier rest s z y is) [
    | inl old_one ↦ inl (given_well s y old_one)
    | inr one ↦
        let front = one.0 in
        let well = bound_unavoided u (λ t. length (g t)) (avoided u wishes) again front one.1 s z y steady_again one.2 in
        let going = going_from_steady left again steady_again in
        let front_steady : IsSteadfastRun left front = steady_from_going left front (front_goes left [] front (Bind s z y ∷ one.1) (subst (GoesOn left []) one.2 going)) in
        let among : (x : ℕ) → is_made front x ≡ true → is_made again x ≡ true = λ x h.
        ap (λ l. is_made l x) one.2 ∙ list_any-append (is_new x) front (Bind s z y ∷ one.1) ∙ or_left _ _ h in
        let apart : (x : ℕ) → is_made front x ≡ true → is_made old x ≡ false = λ x h. unused u k wishes old s0 r.leaving r.leave ts r.plan r.planned x (among x h) in
        let there : pair_of (at left front) y ≡ Some well.0 = ap (λ d. pair_of d y) (residual_after_all u (λ t. length (g t)) (avoided u wishes) empty front) ∙ well.1 in
        let made = pair_touched (At (is_made front)) left y front (touches_own left front (going_from_steady left front front_steady)) (IsSome_at _ _ there) in
        let beside = (completion u k old s0 g are_given (avoided u wishes) front front_steady apart).1 in
        inr (
          apart y made,
          (
            well.0,
            ap (λ l. pair_of (left_by u (old ++ l)) y) one.3 ∙ beside.new_pairs y (apart y made) ∙ well.1,
            well.2,
            unavoided u wishes c r.leaving well.0 s well.2 well.3,
          ),
        )
  ]

  abbrev label : ℕ → ℕ
  label = name u k wishes old s0 r.leaving r.leave ts r.plan r.planned

  abbrev stood : Config
  stood = besides u k wishes old s0 r.leaving r.leave ts r.plan r.planned

  anew_well : (before rest : List Action) (s z y : ℕ) → rebinds_in r ≡ before ++ Bind s z y ∷ rest → GoesWell r (fresh ++ before) s y
  anew_well before rest s z y is =
      let bound = sym (anew_bind u k wishes old s0 goals r s z y) ∙ ap (λ l. binds_at l s z y) is ∙ bound_in before rest s z y in
      let kc = c_config u k wishes old s0 r.leaving r.leave ts r.plan r.planned in
      let t = are_targets u k wishes old s0 r.leaving r.leave ts r.plan r.planned in
      let one = in_rebinds u wishes c r.leaving ts label s z y bound in
      let can = is_candidate u wishes c r.leaving ts label kc r.leave stood t z s y one.among in
      elim (or_cases (has (g s) y) (has (fresh_givers u ts label s) y) (sym (has-append (g s) (fresh_givers u ts label s) y) ∙ can.0)) [
        | inl old_one ↦ inl (given_well s y old_one)
        | inr new_one ↦
            let f = fresh_giver u wishes c r.leaving ts label s y new_one in
            let p = slice_index_or ts f.number 0 in
            let off = targets_off u wishes c r.leaving goals ans.answerable.avoidable p (has_at ts f.number 0 f.low) in
            let stands : pair_of stood y ≡ Some p = ap (pair_of stood) (sym f.named) ∙ target_named u k wishes old s0 r.leaving r.leave ts r.plan r.planned f.number f.low in
            let kept = binds_keep u stood (anew_ties u k wishes old s0 r.leaving r.leave ts r.plan r.planned) before (Bind s z y ∷ rest) y (sym (anew_are u k wishes old s0 goals r) ∙ is) in
            let same : left_by u (old ++ (fresh ++ before)) ≡ after_all u stood before = ap (left_by u) (sym (append_assoc old fresh before)) ∙ after_all-append u empty (old ++ fresh) before in
            let new_one = subst (λ x. is_made old x ≡ false) f.named (name_unused u k wishes old s0 r.leaving r.leave ts r.plan r.planned f.number) in
            inr (new_one, (p, ap (λ d. pair_of d y) same ∙ kept ∙ stands, f.gives_it, unavoided u wishes c r.leaving p s f.gives_it off))
      ]

  pub binds_go_well : (earlier rest : List Action) (s z y : ℕ) → fresh ++ rebinds_in r ≡ earlier ++ Bind s z y ∷ rest → GoesWell r earlier s y
  binds_go_well earlier rest s z y is = elim (split_at fresh (rebinds_in r) earlier rest (Bind s z y) is) [
    | inl one ↦ fresh_well earlier one.0 s z y one.1
    | inr two ↦ subst (λ l. GoesWell r l s y) (sym two.1) (anew_well two.0 rest s z y two.2)
  ]
