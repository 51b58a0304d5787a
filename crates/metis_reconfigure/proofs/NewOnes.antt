-- Instances that are made beside what is settled, with no binding to what leaves or is avoided, come only into pairs that are attained over what is left to plan.
use Rattle.std.proofs.Common.{◌≡◌, ℕ, zero, suc, ◌-◌, ◌<◌, Bool, true, false, cond, not, ◌&&◌, ◌||◌, List, [], ◌∷◌, Option, Some, None, ◌⊎◌, length, take, refl, sym, ap, ◌∙◌, subst, arith, nat_eq, inl, inr}
use Rattle.std.specs.Prelude.{is_some, IsFalse, IsSome, IsSomeAnd, IsTrue}
use Rattle.std.specs.List.{list_any}
use Rattle.std.specs.Option.{option_map_or}
use Rattle.std.proofs.lemmas.Bool.{and_from, and_parts, both_ways, cases_lt, eq-eqb, eqb-true, false_from_ne_true, false≢true, not-true, not_from_false, or_cases}
use Rattle.std.proofs.lemmas.List.{get_or_past}
use Rattle.std.proofs.lemmas.List.Folds.{list_any_at}
use Rattle.metis_completion.proofs.ResidualRows.{no_row_left, required_before, residual_demand, residual_is_universe, residual_next, residual_pairs, residual_provides, row_left}
use Rattle.metis_ids.proofs.Lists.{all_at, any_at, has-filter, in_range, some_member}
use Rattle.metis_ids.specs.Terms.{actor_of}
use Rattle.metis_ids.proofs.Options.{none_or_some}
use Rattle.metis_ids.specs.declared.actions.Action.{Action}
use Rattle.metis_ids.specs.declared.actions.Action.TheVariants.{New, Delete, Bind, Unbind, Move}
use Rattle.metis_ids.specs.declared.goals.Goal.{Goal}
use Rattle.metis_ids.specs.declared.goals.Goal.TheVariants.{Pair, Port}
use Rattle.metis_layers.proofs.LayerFacts.{layer_by, layer_pair}
use Rattle.metis_layers.specs.Terms.{attained_pairs}
use Rattle.metis_rollout.proofs.Quiet.{has-keys}
use Rattle.metis_rollout.specs.Terms.{members}
use Rattle.metis_universe.proofs.Attained.{Closed-layers}
use Rattle.metis_universe.proofs.Demands.{demand_one, no_more, one_provider}
use Rattle.metis_universe.proofs.Edits.{pair_of-put, pair_of-remove}
use Rattle.metis_universe.proofs.Initials.{is_initial-own}
use Rattle.metis_universe.proofs.Kept.{IsConfig-after}
use Rattle.metis_universe.specs.Terms.{Allows, AreDifferent, Closed, Config, Correct, IsConfig, IsProvidedIn, IsProvider, IsRun, IsUniverse, Universe, after, after_all, all_pairs, demand_of, has, initial_of, is_bound, is_empty, is_free, is_initial, layer_of, next_of, no_kind, no_pair, pair_at, pair_count, pair_of, provider_of, provides, put, required_left, required_of, requires, serves, type_of}
use Rattle.metis_wishes.specs.Terms.{avoided, is_avoided}
use Rattle.metis_wishes.specs.declared.wish.Wish.{Wish}
use Rattle.metis_reconfigure.specs.Terms.{IsNew, LeanRightly, NewOnesAct, given, gives, is_unavoidable, left_to_plan, settled}
use Rattle.metis_reconfigure.proofs.Lists.{by_case}
use Rattle.metis_reconfigure.proofs.Unavoided.{attained_layer, attained_provider}

-- ---- numbers and options

-- of more different numbers than a list has, one is not in it
some_outside : (xs ys : List ℕ) → AreDifferent xs → length ys < length xs → (x : ℕ) × (has xs x ≡ true) × (has ys x ≡ false)
some_outside xs ys differ more = by_case (list_any (λ x. not (has ys x)) xs) ((x : ℕ) × (has xs x ≡ true) × (has ys x ≡ false))
    (λ some. let one = some_member (λ x. not (has ys x)) xs some in (one.0, one.1, not-true (has ys one.0) one.2))
    (λ none. absurd (let few = no_more xs ys differ (λ y h. by_case (has ys y) (has ys y ≡ true) (λ there. there) (λ out.
    absurd (both_ways (list_any (λ x. not (has ys x)) xs) none (any_at (λ x. not (has ys x)) y xs h (not_from_false (has ys y) out))))) in omega (arith, few, more)))

put_cases : (b : Bool) (new p : ℕ) (old : Option ℕ) → cond b (Some new) old ≡ Some p → ((b ≡ true) × (new ≡ p)) ⊎ ((b ≡ false) × (old ≡ Some p))
put_cases true new p old h = inl (refl, (cc))
put_cases false new p old h = inr (refl, h)

kept_cases : (b : Bool) (p : ℕ) (old : Option ℕ) → cond b old None ≡ Some p → old ≡ Some p
kept_cases true p old h = h
kept_cases false p old h = cc

same_some : (a b : ℕ) → Some a ≡ Some b → a ≡ b
same_some a b h = cc

none_some : (p : ℕ) (o : Option ℕ) → o ≡ None → o ≡ Some p → ⊥
none_some p o none some = cc

some_pair : (o : Option ℕ) → IsSome o → (p : ℕ) × (o ≡ Some p)
some_pair None h = absurd (false≢true h)
some_pair (Some p) h = (p, refl)

-- ---- a new instance is free

none_required : (xs : List ℕ) → ((r : ℕ) → has xs r ≡ true → ⊥) → is_empty xs ≡ true
none_required [] none = refl
none_required (x ∷ xs) none = absurd (none x (ap (λ b. b || has xs x) (eq-eqb x x refl)))

now_at : (d : Config) (z p : ℕ) → pair_of (put d z p) z ≡ Some p
now_at d z p = pair_of-put d z p z ∙ ap (λ b. cond b (Some p) (pair_of d z)) (eq-eqb z z refl)

new_is_free : (u : Universe) (d : Config) (z t : ℕ) → IsConfig d → Allows u d (New z t) → Correct u (put d z (initial_of u t)) → is_free u (initial_of u t) ≡ true
new_is_free u d z t k h correct =
    let i = initial_of u t in
    and_from (is_initial u i) (is_empty (required_of u i))
    (list_any_at (λ x. nat_eq x.initial i) u.kinds t no_kind h.0 (eq-eqb i i refl))
    (none_required (required_of u i) (λ r e. let met = one_provider u (put d z i) z i r e (correct z i r (now_at d z i) e) in none_or_some (pair_of d z) h.1 (k.requirer r z met.0 met.1.bound)))

-- ---- beside what stands

module _ (u : Universe) (wishes : List Wish) (c : Config) (leaving : List ℕ) (k : IsUniverse u) where
  abbrev counts : ℕ → ℕ
  counts r = length (given u c leaving r)

  abbrev v : Universe
  v = left_to_plan u wishes c leaving

  abbrev inside : List ℕ
  inside = attained_pairs v

  closed : Closed v inside
  closed = Closed-layers v (residual_is_universe u counts (avoided u wishes) k)

  -- what is free is free over what is left
  free_left : (p : ℕ) → is_free u p ≡ true → is_free v p ≡ true
  free_left p free =
      let parts = and_parts (is_initial u p) (is_empty (required_of u p)) free in
      let same : required_of v p ≡ required_of u p = elim (cases_lt p (pair_count u)) [
        | inl low ↦ ap (λ row. row.required) (row_left u counts (avoided u wishes) p low) ∙ ap (λ b. cond b (required_of u p) (required_left counts (pair_at u p))) parts.0
        | inr past ↦ ap (λ row. row.required) (no_row_left u counts (avoided u wishes) p past) ∙ sym (ap (λ row. row.required) (get_or_past u.pairs p no_pair past))
      ] in
      and_from (is_initial u p) (is_empty (required_of v p)) parts.0 (ap is_empty same ∙ parts.1)

  low_inside : (p : ℕ) → has inside p ≡ true → p < pair_count u
  low_inside p h =
      let l = layer_by v p (pair_count v) h in
      let low = in_range 0 (pair_count v) p (layer_pair v p l.layer l.is) in
      omega (arith, low.1, residual_pairs u counts (avoided u wishes))

  -- what stood is in its pair, and what is new is in a pair that is attained, of a type that can be made
  record IsBeside (d : Config) : Type 0 where
    config : IsConfig d
    same : (z p : ℕ) → pair_of c z ≡ Some p → pair_of d z ≡ Some p
    attained : (z p : ℕ) → IsNew c z → pair_of d z ≡ Some p → has inside p ≡ true
    made : (z p : ℕ) → IsNew c z → pair_of d z ≡ Some p → is_free u (initial_of u (type_of u p)) ≡ true

  put_beside : (d : Config) (z p : ℕ) → IsBeside d → IsConfig (put d z p) → IsNew c z → has inside p ≡ true → is_free u (initial_of u (type_of u p)) ≡ true → IsBeside (put d z p)
  put_beside d z p b config new there free = record {
    config = config;
    same = λ x q stood. pair_of-put d z p x ∙ by_case (nat_eq x z) (cond (nat_eq x z) (Some p) (pair_of d x) ≡ Some q)
        (λ is. absurd (none_some q (pair_of c z) new (ap (pair_of c) (sym (eqb-true x z is)) ∙ stood)))
        (λ other. ap (λ t. cond t (Some p) (pair_of d x)) other ∙ b.same x q stood);
    attained = λ x q fresh at. elim (put_cases (nat_eq x z) p q (pair_of d x) (sym (pair_of-put d z p x) ∙ at)) [
      | inl now ↦ subst (λ y. has inside y ≡ true) now.1 there
      | inr before ↦ b.attained x q fresh before.1
    ];
    made = λ x q fresh at. elim (put_cases (nat_eq x z) p q (pair_of d x) (sym (pair_of-put d z p x) ∙ at)) [
      | inl now ↦ subst (λ y. is_free u (initial_of u (type_of u y)) ≡ true) now.1 free
      | inr before ↦ b.made x q fresh before.1
    ];
  }

  -- ---- a move

  module _ (d : Config) (z p q : ℕ) (b : IsBeside d) (new : IsNew c z) (allowed : Allows u d (Move z p q)) (correct : Correct u (put d z q)) (config : IsConfig (put d z q))
      (leans : LeanRightly u wishes c leaving (put d z q)) where
    from_inside : has inside p ≡ true
    from_inside = b.attained z p new allowed.0

    next_row : (q < pair_count u) × (type_of u q ≡ type_of u p)
    next_row = all_at (λ x. (x < pair_count u) × (type_of u x ≡ type_of u p)) q (next_of u p) (k.next p (low_inside p from_inside)).1 allowed.1

    type_free : is_free u (initial_of u (type_of u q)) ≡ true
    type_free = ap (λ t. is_free u (initial_of u t)) next_row.1 ∙ b.made z p new allowed.0

    -- a provider of the instance that moves was there before, in its pair
    before : (r y x : ℕ) → IsTrue (is_bound (put d z q) r z y) → pair_of (put d z q) y ≡ Some x → pair_of d y ≡ Some x
    before r y x bound there = elim (put_cases (nat_eq y z) q x (pair_of d y) (sym (pair_of-put d z q y) ∙ there)) [
      | inl same ↦ absurd (config.apart r z y bound (sym (eqb-true y z same.0)))
      | inr other ↦ other.1
    ]

    -- a settled one that provides the port is given
    settled_given : (r y x : ℕ) → has (settled c leaving) y ≡ true → pair_of d y ≡ Some x → provides u x r ≡ true → has (given u c leaving r) y ≡ true
    settled_given r y x stays now provides_it =
        let there = and_parts (not (has leaving y)) (has (members c) y) (sym (has-filter (λ x. not (has leaving x)) y (members c)) ∙ stays) in
        let stood = some_pair (pair_of c y) (has-keys c.instances y there.1) in
        let same : stood.0 ≡ x = same_some stood.0 x (sym (b.same y stood.0 stood.1) ∙ now) in
        let good : gives u c r y ≡ true = ap (λ o. option_map_or (λ x. provides u x r) o false) stood.1 ∙ (ap (λ x. provides u x r) same ∙ provides_it) in
        has-filter (gives u c r) y (settled c leaving) ∙ and_from (gives u c r y) (has (settled c leaving) y) good stays

    provides_still : (x r : ℕ) → is_avoided u wishes x ≡ false → provides u x r ≡ true → provides v x r ≡ true
    provides_still x r fine provides_it =
        let out : has (avoided u wishes) x ≡ false = has-filter (is_avoided u wishes) x (all_pairs u) ∙ ap (λ t. t && has (all_pairs u) x) fine in
        residual_provides u counts (avoided u wishes) x r ∙ and_from (not (has (avoided u wishes) x)) (provides u x r) (ap not out) provides_it

    -- a provider that is not given is new, so it is in a pair that is attained and provides still
    other_provided : (r y : ℕ) → IsProvider u (put d z q) z r y → has (given u c leaving r) y ≡ false → IsProvidedIn v inside r
    other_provided r y by out =
        let now = before r y by.pair by.bound by.there in
        elim (leans r z y new by.bound) [
          | inl stays ↦ absurd {A = IsProvidedIn v inside r} (both_ways (has (given u c leaving r) y) out (settled_given r y by.pair stays now by.gives))
          | inr fresh ↦
              let fine : is_avoided u wishes by.pair ≡ false = subst (λ o. IsSomeAnd o (λ x. IsFalse (is_avoided u wishes x))) by.there fresh.1 in
              (by.pair, b.attained y by.pair fresh.0 now, provides_still by.pair r fine by.gives)
        ]

    -- more is demanded of the port than is given, so there is such a provider
    provided : is_initial u q ≡ false → (r : ℕ) → requires v q r ≡ true → IsProvidedIn v inside r
    provided later r needs =
        let left = demand_one v q r needs in
        let demand : demand_of v q r ≡ demand_of u q r - counts r = residual_demand u counts (avoided u wishes) q r ∙ ap (λ t. cond t (demand_of u q r) (demand_of u q r - counts r)) later in
        let met = correct z q r (now_at d z q) (required_before u counts (avoided u wishes) q r needs) in
        let one = some_outside met.providers (given u c leaving r) met.different (omega (arith, left, demand, met.enough)) in
        other_provided r one.0 (met.each one.0 one.1) one.2

    move_inside : has inside q ≡ true
    move_inside = by_case (is_initial u q) (has inside q ≡ true)
        (λ first.
        let is = eqb-true (initial_of u (type_of u q)) q (is_initial-own u k q next_row.0 ∙ first) in
        closed.free q (free_left q (subst (λ x. is_free u x ≡ true) is type_free)))
        (λ later. closed.moves p q from_inside (ap (λ xs. has xs q) (residual_next u counts (avoided u wishes) p) ∙ allowed.1) (provided later))

    move_beside : IsBeside (put d z q)
    move_beside = put_beside d z q b config new move_inside type_free

  -- ---- actions

  new_beside : (d : Config) (z t : ℕ) → IsBeside d → IsNew c z → Allows u d (New z t) → Correct u (put d z (initial_of u t)) → IsConfig (put d z (initial_of u t)) → IsBeside (put d z (initial_of u t))
  new_beside d z t b new allowed correct config =
      let free = new_is_free u d z t b.config allowed correct in
      put_beside d z (initial_of u t) b config new (closed.free (initial_of u t) (free_left (initial_of u t) free))
      (ap (λ s. is_free u (initial_of u s)) (k.initials t allowed.0).1 ∙ free)

  step_beside : (d : Config) (a : Action) → IsBeside d → IsNew c (actor_of a) → Allows u d a → Correct u (after u d a) → LeanRightly u wishes c leaving (after u d a) → IsBeside (after u d a)
  step_beside d (New z t) b new allowed correct leans = new_beside d z t b new allowed correct (IsConfig-after u d (New z t) b.config allowed)
  step_beside d (Delete z) b new allowed correct leans = record {
    config = IsConfig-after u d (Delete z) b.config allowed;
    same = λ x q stood. pair_of-remove d z x ∙ by_case (nat_eq x z) (cond (not (nat_eq x z)) (pair_of d x) None ≡ Some q)
        (λ is. absurd (none_some q (pair_of c z) new (ap (pair_of c) (sym (eqb-true x z is)) ∙ stood)))
        (λ other. ap (λ t. cond (not t) (pair_of d x) None) other ∙ b.same x q stood);
    attained = λ x q fresh at. b.attained x q fresh (kept_cases (not (nat_eq x z)) q (pair_of d x) (sym (pair_of-remove d z x) ∙ at));
    made = λ x q fresh at. b.made x q fresh (kept_cases (not (nat_eq x z)) q (pair_of d x) (sym (pair_of-remove d z x) ∙ at));
  }
  step_beside d (Bind r z y) b new allowed correct leans = record {
    config = IsConfig-after u d (Bind r z y) b.config allowed;
    same = b.same;
    attained = b.attained;
    made = b.made;
  }
  step_beside d (Unbind r z y) b new allowed correct leans = record {
    config = IsConfig-after u d (Unbind r z y) b.config allowed;
    same = b.same;
    attained = b.attained;
    made = b.made;
  }
  step_beside d (Move z p q) b new allowed correct leans = move_beside d z p q b new allowed correct (IsConfig-after u d (Move z p q) b.config allowed) leans

  walk : (d : Config) (xs : List Action) (j : ℕ) → IsBeside d → IsRun u d xs → NewOnesAct u wishes c leaving d xs → IsBeside (after_all u d (take j xs))
  walk d xs zero b run act = b
  walk d [] (suc j) b run act = b
  walk d (a ∷ xs) (suc j) b run act = walk (after u d a) xs j (step_beside d a b act.0 run.0 run.1 act.1) run.2 act.2

  module _ (config : IsConfig c) (xs : List Action) (run : IsRun u c xs) (act : NewOnesAct u wishes c leaving c xs) where
    begins : IsBeside c
    begins = record {
      config = config;
      same = λ z p h. h;
      attained = λ z p new h. absurd (none_some p (pair_of c z) new h);
      made = λ z p new h. absurd (none_some p (pair_of c z) new h);
    }

    -- at each moment each new instance is in a pair that is attained over what is left to plan
    pub new_ones_inside : (j z p : ℕ) → IsNew c z → pair_of (after_all u c (take j xs)) z ≡ Some p → IsTrue (has (attained_pairs v) p)
    new_ones_inside j z p new at = (walk c xs j begins run act).attained z p new at

    -- so none of them serves a goal that is unavoidable, but in an avoided pair
    pub unavoidable_unserved : (g : Goal) → IsTrue (is_unavoidable u wishes v g) → (j z p : ℕ) → IsNew c z → pair_of (after_all u c (take j xs)) z ≡ Some p
        → IsFalse (is_avoided u wishes p) → IsFalse (serves u p g)
    unavoidable_unserved g bad j z p new at fine = false_from_ne_true (serves u p g) (λ good. by g bad good (new_ones_inside j z p new at)) where
      by : (g : Goal) → is_unavoidable u wishes v g ≡ true → serves u p g ≡ true → has (attained_pairs v) p ≡ true → ⊥
      by (Pair q) bad good there =
          let same = eqb-true p q good in
          elim (or_cases (is_avoided u wishes q) (not (is_some (layer_of v q))) bad) [
            | inl avoids ↦ both_ways (is_avoided u wishes p) fine (ap (is_avoided u wishes) same ∙ avoids)
            | inr never ↦ both_ways (is_some (layer_of v q)) (not-true (is_some (layer_of v q)) never) (subst (λ x. IsSome (layer_of v x)) same (attained_layer v p there))
          ]
      by (Port r) bad good there =
          let out : has (avoided u wishes) p ≡ false = has-filter (is_avoided u wishes) p (all_pairs u) ∙ ap (λ t. t && has (all_pairs u) p) fine in
          let gives = residual_provides u counts (avoided u wishes) p r ∙ and_from (not (has (avoided u wishes) p)) (provides u p r) (ap not out) good in
          both_ways (is_some (provider_of v r)) (not-true (is_some (provider_of v r)) bad) (attained_provider v r p there gives)
