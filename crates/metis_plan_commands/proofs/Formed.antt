-- The plans of rollouts and of reconfigurations are well formed: each instance has a number of 32 bits.
use Rattle.std.proofs.Common.{◌≡◌, ℕ, zero, suc, ◌+◌, ◌-◌, ◌<◌, ◌≤◌, ◌^◌, Bool, true, false, cond, not, nat_eq, ◌||◌, List, [], ◌∷◌, ◌++◌, Option, Some, None, length, map, refl, sym, ap, ◌∙◌, subst, arith, inl, inr}
use Rattle.std.specs.List.{All, AllByRecursion, filter}
use Rattle.std.specs.Option.{option_map_or}
use Rattle.std.proofs.lemmas.Bool.{eq-eqb, eqb-true, false≢true, or_cases, or_left, or_right}
use Rattle.std.proofs.lemmas.List.{length-map}
use Rattle.std.proofs.lemmas.List.Elements.{All-from_recursion, All-nil, recursion_from_All}
use Rattle.std.proofs.lemmas.List.Folds.{list_any-append}
use Rattle.std.proofs.lemmas.List.Sums.{prefix_len-le-length}
use Rattle.metis_completion.proofs.Completion.{made_completed}
use Rattle.metis_ids.specs.Terms.{Dup, makes}
use Rattle.metis_ids.specs.Terms as ids
use Rattle.metis_ids.specs.declared.actions.Action.{Action}
use Rattle.metis_ids.specs.declared.actions.Action.TheVariants.{New, Delete, Bind, Unbind, Move}
use Rattle.metis_ids.specs.declared.goals.Goal.{Goal}
use Rattle.metis_layers.specs.Terms.{path_to, place_of, slot_binds, slot_line, slot_lines, slot_move, slot_moves, slot_unbinds, slots_gained}
use Rattle.metis_planner.specs.Terms.{IsPlanFor}
use Rattle.metis_rollout.proofs.Going.{going_from_steady}
use Rattle.metis_rollout.proofs.ScaffoldSize.{rollout_short, scaffold_short}
use Rattle.metis_rollout.proofs.Together.{touches_own}
use Rattle.metis_rollout.proofs.Touching.{AllTouch, At, Touches}
use Rattle.metis_rollout.proofs.Unused.{least_numbers}
use Rattle.metis_rollout.proofs.Walking.{news_few}
use Rattle.metis_rollout.proofs.Whole.{replaced}
use Rattle.metis_rollout.proofs.Within.{rollout_within}
use Rattle.metis_rollout.specs.Terms.{all_but, all_go, among, bind, cycle_removal, deletes, downward, ends_first, first_unbinds, fresh_name, is_made, left_of, members, news_of, next_unreferenced, pairs_in, removal, renumber, renumbered, rollout, scaffold_bindings, scaffold_ends, scaffold_holder, scaffold_list, scaffold_name, unbind, unreferenced_deletes_within, untied_of}
use Rattle.metis_text.proofs.WrittenRun.{run_formed}
use Rattle.metis_text.specs.Terms.{IsWellFormed}
use Rattle.metis_universe.specs.Terms.{Binding, Config, IsOf, IsSteadfastRun, IsTable, NamesBelow, Universe, after_all, empty, is_empty, is_new, pair_count, remove, type_of}
use Rattle.metis_wishes.specs.Terms.{rebound}
use Rattle.metis_wishes.specs.declared.wish.Wish.{Wish}
use Rattle.metis_plan_commands.specs.Terms.{others, plan_of}
use Rattle.metis_reconfigure.proofs.Joined.{ties}
use Rattle.metis_reconfigure.proofs.Keeping.{anew_are}
use Rattle.metis_reconfigure.proofs.Lawful.{is_a_run}
use Rattle.metis_reconfigure.proofs.Short.{reconfigured_of, reconfigured_short}
use Rattle.metis_reconfigure.specs.Terms.{IsAnswered, Reconfiguration, before_removal, fresh_actions, given, left_by, rebinds_in, reconfigured, targets}

-- ---- a run names what it makes

named_made : (u : Universe) (xs : List Action) (n : ℕ) → IsSteadfastRun u xs → ((z : ℕ) → is_made xs z ≡ true → z < n) → All (NamesBelow n) xs
named_made u xs n run low = All-from_recursion (NamesBelow n) xs (each xs (touches_own u xs (going_from_steady u xs run))) where
  one : (a : Action) → Touches (At (is_made xs)) a → NamesBelow n a
  one (New z t) h = low z h
  one (Delete z) h = low z h
  one (Bind r z y) h = (low z h.0, low y h.1)
  one (Unbind r z y) h = (low z h.0, low y h.1)
  one (Move z p q) h = low z h

  each : (ys : List Action) → AllTouch (At (is_made xs)) ys → AllByRecursion (NamesBelow n) ys
  each [] all = tt
  each (a ∷ ys) all = (one a all.0, each ys all.1)

-- ---- what is made

made_low : (n : ℕ) (xs : List Action) (z : ℕ) → AllByRecursion (NamesBelow n) xs → is_made xs z ≡ true → z < n
made_low n [] z all h = absurd (false≢true h)
made_low n (a ∷ xs) z all h = elim (or_cases (is_new z a) (is_made xs z) h) [
  | inl now ↦ one a all.0 now
  | inr later ↦ made_low n xs z all.1 later
] where
  one : (a : Action) → NamesBelow n a → is_new z a ≡ true → z < n
  one (New x t) low is = subst (λ y. y < n) (eqb-true x z is) low
  one (Delete x) low is = absurd (false≢true is)
  one (Bind r x y) low is = absurd (false≢true is)
  one (Unbind r x y) low is = absurd (false≢true is)
  one (Move x p q) low is = absurd (false≢true is)

made_parts : (xs ys : List Action) (z : ℕ) → is_made (xs ++ ys) z ≡ (is_made xs z || is_made ys z)
made_parts xs ys z = list_any-append (is_new z) xs ys

none_new : {X : Type 0} (f : X → Action) (z : ℕ) → ((x : X) → is_new z (f x) ≡ false) → (xs : List X) → is_made (map f xs) z ≡ false
none_new f z none [] = refl
none_new f z none (x ∷ xs) = λ i. none x i || none_new f z none xs i

-- under new names
renamed : (f : ℕ → ℕ) (xs : List Action) (z : ℕ) → is_made (map (renumber f) xs) z ≡ true → (x : ℕ) × (f x ≡ z) × (is_made xs x ≡ true)
renamed f [] z h = absurd (false≢true h)
renamed f (a ∷ xs) z h = elim (or_cases (is_new z (renumber f a)) (is_made (map (renumber f) xs) z) h) [
  | inl now ↦ one a now
  | inr later ↦ let rest = renamed f xs z later in (rest.0, rest.1, or_right (is_new rest.0 a) (is_made xs rest.0) rest.2)
] where
  one : (a : Action) → is_new z (renumber f a) ≡ true → (x : ℕ) × (f x ≡ z) × ((is_new x a || is_made xs x) ≡ true)
  one (New x t) is = (x, eqb-true (f x) z is, or_left (is_new x (New x t)) (is_made xs x) (eq-eqb x x refl))
  one (Delete x) is = absurd (false≢true is)
  one (Bind r x y) is = absurd (false≢true is)
  one (Unbind r x y) is = absurd (false≢true is)
  one (Move x p q) is = absurd (false≢true is)

fresh_low : (old fresh : List Action) (z : ℕ) → is_made (renumbered old fresh) z ≡ true → z < length old + length fresh + 1
fresh_low old fresh z h =
    let by = renamed (fresh_name old fresh) fresh z h in
    let place : place_of (news_of fresh) by.0 ≤ length (news_of fresh) = prefix_len-le-length (λ q. not (nat_eq q by.0)) (news_of fresh) in
    let low = (least_numbers (news_of old)).low (place_of (news_of fresh) by.0) in
    omega (arith, news_few old, news_few fresh, place, low, by.1)

-- ---- what a removal makes

module _ (u : Universe) (name : ℕ → ℕ) where
  moves_none : (holder : ℕ → ℕ → ℕ) (z x p : ℕ) (path : List ℕ) → is_made (slot_moves u holder z p path) x ≡ false
  moves_none holder z x p [] = refl
  moves_none holder z x p (q ∷ path) =
      made_parts (slot_move u holder z p q) (slot_moves u holder z q path) x
      ∙ (λ i. one i || moves_none holder z x q path i) where
        one : is_made (slot_move u holder z p q) x ≡ false
        one = made_parts (slot_binds holder z (slots_gained u p q)) (Move z p q ∷ slot_unbinds holder z (slots_gained u q p)) x
            ∙ (λ i. none_new (λ (s : ℕ × ℕ). Bind s.0 z (holder s.0 s.1)) x (λ s. refl) (slots_gained u p q) i || none_new (λ (s : ℕ × ℕ). Unbind s.0 z (holder s.0 s.1)) x (λ s. refl) (slots_gained u q p) i)

  line_made : (holder : ℕ → ℕ → ℕ) (z x : ℕ) (path : List ℕ) → is_made (slot_line u holder z path) x ≡ true → x ≡ z
  line_made holder z x [] h = absurd (false≢true h)
  line_made holder z x (p ∷ path) h = elim (or_cases (is_new x (New z (type_of u p))) (is_made (slot_moves u holder z p path) x) h) [
    | inl now ↦ sym (eqb-true z x now)
    | inr later ↦ absurd (false≢true (sym (moves_none holder z x p path) ∙ later))
  ]

  lines_made : (holder : ℕ → ℕ → ℕ) (z x : ℕ) (paths : List (List ℕ)) → is_made (slot_lines u holder z paths) x ≡ true → x < z + length paths
  lines_made holder z x [] h = absurd (false≢true h)
  lines_made holder z x (path ∷ paths) h = elim (or_cases (is_made (slot_line u holder z path) x) (is_made (slot_lines u holder (z + 1) paths) x) (sym (made_parts (slot_line u holder z path) (slot_lines u holder (z + 1) paths) x) ∙ h)) [
    | inl now ↦ let same = line_made holder z x path now in omega (arith, same)
    | inr later ↦ let rest = lines_made holder (z + 1) x paths later in omega (arith, rest)
  ]

  scaffold_made : (g : List ℕ) (z : ℕ) → is_made (map (renumber name) (scaffold_list u g)) z ≡ true → (k : ℕ) × (k < length (scaffold_ends u g)) × (name k ≡ z)
  scaffold_made g z h =
      let by = renamed name (scaffold_list u g) z h in
      let low = lines_made (scaffold_holder u g) 0 by.0 (map (path_to u) (scaffold_ends u g)) by.2 in
      (by.0, omega (arith, low, length-map (scaffold_ends u g) (path_to u)), by.1)

  -- its instances are those of a scaffold
  cycle_made : (c : Config) (z : ℕ) → is_made (cycle_removal u name c) z ≡ true → (k : ℕ) × (k < length (scaffold_ends u (pairs_in c))) × (name k ≡ z)
  cycle_made c z h = scaffold_made (pairs_in c) z (first (is_made (map (renumber name) (scaffold_list u (pairs_in c))) z) (sym whole ∙ h)) where
    others_none : is_made (map bind (scaffold_bindings u (λ r k. name (scaffold_holder u (pairs_in c) r k)) c) ++ (map unbind c.bindings ++ (deletes (members c) ++ deletes (map name (downward (length (scaffold_ends u (pairs_in c)))))))) z ≡ false
    others_none =
        let ends : List ℕ = map name (downward (length (scaffold_ends u (pairs_in c)))) in
        let bs : List Binding = scaffold_bindings u (λ r k. name (scaffold_holder u (pairs_in c) r k)) c in
        made_parts (map bind bs) (map unbind c.bindings ++ (deletes (members c) ++ deletes ends)) z
        ∙ (λ i. none_new bind z (λ b. refl) bs i || (made_parts (map unbind c.bindings) (deletes (members c) ++ deletes ends) z
        ∙ (λ j. none_new unbind z (λ b. refl) c.bindings j || (made_parts (deletes (members c)) (deletes ends) z
        ∙ (λ m. none_new (λ (y : ℕ). Delete y) z (λ y. refl) (members c) m || none_new (λ (y : ℕ). Delete y) z (λ y. refl) ends m)) j)) i)

    whole : is_made (cycle_removal u name c) z ≡ (is_made (map (renumber name) (scaffold_list u (pairs_in c))) z || false)
    whole = made_parts (map (renumber name) (scaffold_list u (pairs_in c))) _ z ∙ ap (λ b. is_made (map (renumber name) (scaffold_list u (pairs_in c))) z || b) others_none

    first : (b : Bool) → (b || false) ≡ true → b ≡ true
    first true h = refl
    first false h = h

  deletes_none : (goes : ℕ → Bool) (n : ℕ) (c : Config) (z : ℕ) → is_made (unreferenced_deletes_within goes n c) z ≡ false
  deletes_none goes zero c z = refl
  deletes_none goes (suc n) c z = by (next_unreferenced goes c) (λ x. deletes_none goes n (remove c x) z) where
    by : (o : Option ℕ) → ((x : ℕ) → is_made (unreferenced_deletes_within goes n (remove c x)) z ≡ false)
        → is_made (option_map_or (λ x. Delete x ∷ unreferenced_deletes_within goes n (remove c x)) o []) z ≡ false
    by None rest = refl
    by (Some x) rest = rest x

  -- at most 32,000 instances, which have the first names
  removal_made : IsTable u → (goes : ℕ → Bool) (c : Config) (z : ℕ) → is_made (removal u goes name c) z ≡ true → (k : ℕ) × (k < 32000) × (name k ≡ z)
  removal_made table goes c z h =
      let left = among goes (left_of u goes c) in
      let a = first_unbinds u goes c in
      let b = unreferenced_deletes_within goes (length (members (untied_of u goes c))) (untied_of u goes c) in
      let last = cond (is_empty (members left)) [] (cycle_removal u name left) in
      let start : is_made (removal u goes name c) z ≡ is_made last z =
      made_parts a (b ++ last) z ∙ (λ i. unbinds_none i || (made_parts b last z ∙ (λ j. deletes_none goes (length (members (untied_of u goes c))) (untied_of u goes c) z j || is_made last z)) i) in
      by left (is_empty (members left)) (sym start ∙ h) where
        unbinds_none : is_made (first_unbinds u goes c) z ≡ false
        unbinds_none = none_new unbind z (λ b. refl) (filter (ends_first u goes c) c.bindings)

        by : (left : Config) (b : Bool) → is_made (cond b [] (cycle_removal u name left)) z ≡ true → (k : ℕ) × (k < 32000) × (name k ≡ z)
        by left true h = absurd (false≢true h)
        by left false h =
            let made = cycle_made left z h in
            let few = (scaffold_short u (pairs_in left) table).0 in
            (made.0, omega (arith, made.1, few), made.2)

scaffold_low : (u : Universe) → IsTable u → (old fresh : List Action) (goes : ℕ → Bool) (c : Config) (z : ℕ) → is_made (removal u goes (scaffold_name old fresh) c) z ≡ true → z < length old + length fresh + 32000
scaffold_low u table old fresh goes c z h =
    let by = removal_made u (scaffold_name old fresh) table goes c z h in
    let low = (least_numbers (news_of old)).low (length (news_of fresh) + by.0) in
    omega (arith, news_few old, news_few fresh, low, by.1, by.2)

-- ---- the plan of a run

formed_by : (u : Universe) → IsTable u → (xs : List Action) → IsSteadfastRun u xs → All (IsOf u) xs → length xs < 2 ^ 32 - 1 → ((z : ℕ) → is_made xs z ≡ true → z < 2 ^ 32) → IsWellFormed u (plan_of xs) (others xs)
formed_by u table xs run of few low =
    run_formed u (plan_of xs) table run.run of (All-nil (λ (d : Dup). d.pair < pair_count u)) (All-nil (λ (d : Dup). 2 ≤ length d.cycle))
    (record { actions = named_made u xs (2 ^ 32) run low; events = All-nil _ }) refl (omega (arith, few)) (omega arith)

pub rollout_formed : (u : Universe) → IsTable u → (old : List Action) → IsSteadfastRun u old → All (IsOf u) old → All (NamesBelow (2 ^ 32)) old → length old < 2 ^ 28
    → (g : List ℕ) (fresh : ids.Plan) → IsPlanFor u g fresh → let xs = rollout u old fresh.actions in IsWellFormed u (plan_of xs) (others xs)
rollout_formed u table old steady of named short g fresh planned =
    let xs = rollout u old fresh.actions in
    let few : length fresh.actions ≤ 10354176 = omega (arith, planned.short, planned.bounded) in
    formed_by u table xs (replaced u old fresh.actions table.universe steady planned.run).0 (rollout_within u old fresh.actions table.universe steady of planned.numbers)
    (rollout_short u old fresh.actions table steady (omega (arith, few, short))) (λ z h. low few z h) where
      low : length fresh.actions ≤ 10354176 → (z : ℕ) → is_made (rollout u old fresh.actions) z ≡ true → z < 2 ^ 32
      low few z h =
          let new = renumbered old fresh.actions in
          let rest = removal u all_go (scaffold_name old fresh.actions) (after_all u empty old) in
          elim (or_cases (is_made old z) (is_made (new ++ rest) z) (sym (made_parts old (new ++ rest) z) ∙ h)) [
            | inl was ↦ made_low (2 ^ 32) old z (recursion_from_All (NamesBelow (2 ^ 32)) old named) was
            | inr more ↦ elim (or_cases (is_made new z) (is_made rest z) (sym (made_parts new rest z) ∙ more)) [
              | inl is ↦ let l = fresh_low old fresh.actions z is in omega (arith, few, short, l)
              | inr is ↦ let l = scaffold_low u table old fresh.actions all_go (after_all u empty old) z is in omega (arith, few, short, l)
            ]
          ]

-- what binds anew makes nothing
anew_none : (u : Universe) → IsTable u → (wishes : List Wish) (old : List Action) (goals : List Goal) (r : Reconfiguration u wishes old goals) → IsAnswered u wishes old goals r → (z : ℕ) → is_made (rebinds_in r) z ≡ false
anew_none u table wishes old goals r ans z =
    ap (λ l. is_made l z) (anew_are u table.universe wishes old ans.steady goals r)
    ∙ none_new bind z (λ b. refl) (ties u table.universe wishes old ans.steady r.leaving r.leave (targets u wishes (left_by u old) r.leaving goals) r.plan r.planned)

pub reconfiguration_formed : (u : Universe) → IsTable u → (wishes : List Wish) (old : List Action) (goals : List Goal) (r : Reconfiguration u wishes old goals) → IsAnswered u wishes old goals r
    → All (IsOf u) old → All (NamesBelow (2 ^ 32)) old → length old < 2 ^ 28 → length (rebound wishes) ≤ 2 ^ 16 → IsWellFormed u (plan_of (reconfigured r)) (others (reconfigured r))
reconfiguration_formed u table wishes old goals r ans of named short few_named =
    let few : length r.plan.actions ≤ 10354176 = omega (arith, r.planned.short, r.planned.bounded) in
    formed_by u table (reconfigured r) (is_a_run u wishes old goals r table.universe ans.steady ans.answerable)
    (reconfigured_of u table.universe wishes old ans.steady goals r of) (reconfigured_short u table wishes old goals r ans short few_named) (λ z h. low few z h) where
      low : length r.plan.actions ≤ 10354176 → (z : ℕ) → is_made (reconfigured r) z ≡ true → z < 2 ^ 32
      low few z h =
          let fresh = fresh_actions u old r.leaving r.plan in
          let anew = rebinds_in r in
          let rest = removal u (all_but r.staying) (scaffold_name old r.plan.actions) (left_by u (before_removal r)) in
          elim (or_cases (is_made (before_removal r) z) (is_made rest z) (sym (made_parts (before_removal r) rest z) ∙ h)) [
            | inr is ↦ let l = scaffold_low u table old r.plan.actions (all_but r.staying) (left_by u (before_removal r)) z is in omega (arith, few, short, l)
            | inl before ↦ elim (or_cases (is_made old z) (is_made (fresh ++ anew) z) (sym (made_parts old (fresh ++ anew) z) ∙ before)) [
              | inl was ↦ made_low (2 ^ 32) old z (recursion_from_All (NamesBelow (2 ^ 32)) old named) was
              | inr more ↦ elim (or_cases (is_made fresh z) (is_made anew z) (sym (made_parts fresh anew z) ∙ more)) [
                | inl is ↦
                    let made = sym (made_completed u (given u (left_by u old) r.leaving) (renumbered old r.plan.actions) z) ∙ is in
                    let l = fresh_low old r.plan.actions z made in
                    omega (arith, few, short, l)
                | inr is ↦ absurd (false≢true (sym (anew_none u table wishes old goals r ans z) ∙ is))
              ]
            ]
          ]
