-- One instance's way, each of whose steps is bound only to instances that stand already.
use Rattle.std.proofs.Common.{◌≡◌, ℕ, ◌<◌, ◌≤◌, Bool, true, false, cond, not, ◌&&◌, ◌||◌, List, [], ◌∷◌, ◌++◌, length, Option, Some, refl, sym, ap, ◌∙◌, subst, arith, nat_eq, inl, inr, append_assoc, append-nil, length-append}
use Rattle.std.proofs.lemmas.Bool.{eqb-true, eq-eqb, ne_eqb, false≢true, and_parts, and_from, le-leb, or_cases, or_left, or_right}
use Rattle.std.specs.Cmp.{both_ways}
use Rattle.std.specs.List.{list_any, slice_get}
use Rattle.std.specs.Option.{option_map_or}
use Rattle.std.specs.Prelude.{IsSomeAnd}
use Rattle.std.proofs.Math.Bool.{or-false}
use Rattle.std.proofs.lemmas.Option.{slice_get_past}
use Rattle.metis_ids.specs.declared.actions.Action.{Action}
use Rattle.metis_ids.specs.declared.actions.Action.TheVariants.{New, Bind, Unbind, Move}
use Rattle.metis_ids.proofs.Tests.{eq_comm}
use Rattle.metis_universe.proofs.Demands.{IsMet-slots}
use Rattle.metis_universe.proofs.Edits.{pair_of-put, is_bound-tie, is_bound-untie}
use Rattle.metis_universe.proofs.Frames.{bindings-after_all}
use Rattle.metis_universe.specs.Terms.{CanBind, Correct, IsProvider, Universe, demand_of, empty, has, initial_of, is_bound, is_steadfast_after, is_tie, next_of, pair_of, provides, standing, type_of, type_provides, type_requires}
use Rattle.metis_universe.proofs.Bindings.{unprovided}
use Rattle.metis_layers.proofs.Deploying.{slice_get-before, slice_get-push}
use Rattle.metis_layers.proofs.Going.{at, at-next, GoesOn, no_news, type_provides-own}
use Rattle.metis_layers.proofs.Slots.{IsFilled, AreServed, IsAt, Stand, wants, ends_want, bound_slots, adding, dropping, Fresh, Ready, with_all, without_all, has_slot, here, later}
use Rattle.metis_layers.specs.Terms.{slot_binds, slot_unbinds}
use Rattle.metis_ids.proofs.Lists.{get_at_end}

-- ---- tests

nothing_more : (a e : Bool) → ((a && false) || e) ≡ e
nothing_more true e = refl
nothing_more false e = refl

tie_here : (s a k t e : Bool) → (((s && a) && k) || ((a && t) || e)) ≡ ((a && ((s && k) || t)) || e)
tie_here true true true t e = refl
tie_here true true false t e = refl
tie_here true false k t e = refl
tie_here false true k t e = refl
tie_here false false k t e = refl

untie_here : (s a k t e : Bool) → (a ≡ true → e ≡ false) → (not ((s && a) && k) && ((a && t) || e)) ≡ ((a && (not (s && k) && t)) || e)
untie_here true true true t e none = rw (none refl) refl
untie_here true true false t e none = refl
untie_here true false k t e none = refl
untie_here false true k t e none = refl
untie_here false false k t e none = refl

put_twice : (b : Bool) (p q : ℕ) (o : Option ℕ) → cond b (Some q) (cond b (Some p) o) ≡ cond b (Some q) o
put_twice true p q o = refl
put_twice false p q o = refl

lower : (a b : ℕ) → a ≡ b → b < a → ⊥
lower a b e h = omega arith

module _ (u : Universe) (holder slot : ℕ → ℕ → ℕ) (back : (r y : ℕ) → 1 ≤ slot r y → holder r (slot r y) ≡ y) (ends : List ℕ) where
  -- ---- what each action leaves

  own_end : (x r k : ℕ) → nat_eq x (length ends) ≡ true → ends_want u ends x r k ≡ false
  own_end x r k is = rw (slice_get_past ends x (omega (arith, eqb-true x (length ends) is))) refl

  -- the binding to a slot, told by the slot
  tied : (r k o x y : ℕ) → 1 ≤ k → slot r (holder r k) ≡ k → is_tie o x y (r, length ends, holder r k) ≡ ((nat_eq o r && nat_eq x (length ends)) && nat_eq (slot o y) k)
  tied r k o x y first own = both_ways _ _ to from where
    to : is_tie o x y (r, length ends, holder r k) ≡ true → ((nat_eq o r && nat_eq x (length ends)) && nat_eq (slot o y) k) ≡ true
    to h =
        let parts = and_parts _ _ h in
        let fronts = and_parts (nat_eq r o) (nat_eq (length ends) x) parts.0 in
        let port = eqb-true r o fronts.0 in
        let provider = eqb-true (holder r k) y parts.1 in
        and_from _ _ (and_from _ _ (eq-eqb o r (sym port)) (eq-eqb x (length ends) (sym (eqb-true (length ends) x fronts.1))))
        (eq-eqb (slot o y) k (sym (λ i. slot (port i) (provider i)) ∙ own))

    from : ((nat_eq o r && nat_eq x (length ends)) && nat_eq (slot o y) k) ≡ true → is_tie o x y (r, length ends, holder r k) ≡ true
    from h =
        let parts = and_parts _ _ h in
        let fronts = and_parts (nat_eq o r) (nat_eq x (length ends)) parts.0 in
        let port = eqb-true o r fronts.0 in
        let number : slot r y ≡ k = sym (ap (λ n. slot n y) port) ∙ eqb-true (slot o y) k parts.1 in
        let provider : holder r k ≡ y = sym (ap (holder r) number) ∙ back r y (subst (λ n. 1 ≤ n) (sym number) first) in
        and_from _ _ (and_from _ _ (eq-eqb r o (sym port)) (eq-eqb (length ends) x (sym (eqb-true x (length ends) fronts.1)))) (eq-eqb (holder r k) y provider)

  tied_same : (r k o x y : ℕ) → 1 ≤ k → slot r (holder r k) ≡ k → is_tie r (length ends) (holder r k) (o, x, y) ≡ ((nat_eq o r && nat_eq x (length ends)) && nat_eq (slot o y) k)
  tied_same r k o x y first own = (λ i. (eq_comm o r i && eq_comm x (length ends) i) && eq_comm y (holder r k) i) ∙ tied r k o x y first own

  pub at_begin : (earlier : List Action) (t p : ℕ) → Stand u holder slot ends earlier → initial_of u t ≡ p → IsAt u holder slot ends p (λ r k. false) (earlier ++ New (length ends) t ∷ [])
  at_begin earlier t p s is = record {
    pairs = λ x. ap (λ c. pair_of c x) (at-next u earlier (New (length ends) t)) ∙ pair_of-put (at u earlier) (length ends) (initial_of u t) x
        ∙ ap (λ q. cond (nat_eq x (length ends)) (Some q) (pair_of (at u earlier) x)) is ∙ ap (λ o. cond (nat_eq x (length ends)) (Some p) o) (s.pairs x) ∙ sym (slice_get-push ends p x);
    bound = λ r x y. ap (λ c. is_bound c r x y) (at-next u earlier (New (length ends) t)) ∙ s.bound r x y ∙ sym (nothing_more (nat_eq x (length ends)) (ends_want u ends x r (slot r y)));
    news = λ x h. no_news x earlier (New (length ends) t) (s.news x (omega arith)) (ne_eqb (length ends) x (λ e. omega arith));
  }

  pub at_retest : (p : ℕ) (t t' : ℕ → ℕ → Bool) (earlier : List Action) → ((r k : ℕ) → t r k ≡ t' r k) → IsAt u holder slot ends p t earlier → IsAt u holder slot ends p t' earlier
  at_retest p t t' earlier same s = record {
    pairs = s.pairs;
    bound = λ r x y. s.bound r x y ∙ ap (λ b. (nat_eq x (length ends) && b) || ends_want u ends x r (slot r y)) (same r (slot r y));
    news = s.news;
  }

  at_bind : (p r k : ℕ) (t : ℕ → ℕ → Bool) (earlier : List Action) → 1 ≤ k → slot r (holder r k) ≡ k → IsAt u holder slot ends p t earlier → IsAt u holder slot ends p (adding t (r, k)) (earlier ++ Bind r (length ends) (holder r k) ∷ [])
  at_bind p r k t earlier first own s = record {
    pairs = λ x. ap (λ c. pair_of c x) (at-next u earlier (Bind r (length ends) (holder r k))) ∙ s.pairs x;
    bound = λ o x y.
        ap (λ c. is_bound c o x y) (at-next u earlier (Bind r (length ends) (holder r k))) ∙ is_bound-tie (at u earlier) r (length ends) (holder r k) o x y
        ∙ (λ i. tied r k o x y first own i || s.bound o x y i)
        ∙ tie_here (nat_eq o r) (nat_eq x (length ends)) (nat_eq (slot o y) k) (t o (slot o y)) (ends_want u ends x o (slot o y));
    news = λ x h. no_news x earlier (Bind r (length ends) (holder r k)) (s.news x h) refl;
  }

  pub at_move : (p q : ℕ) (t : ℕ → ℕ → Bool) (earlier : List Action) → IsAt u holder slot ends p t earlier → IsAt u holder slot ends q t (earlier ++ Move (length ends) p q ∷ [])
  at_move p q t earlier s = record {
    pairs = λ x. ap (λ c. pair_of c x) (at-next u earlier (Move (length ends) p q)) ∙ pair_of-put (at u earlier) (length ends) q x
        ∙ ap (λ o. cond (nat_eq x (length ends)) (Some q) o) (s.pairs x ∙ slice_get-push ends p x) ∙ put_twice (nat_eq x (length ends)) p q (slice_get ends x) ∙ sym (slice_get-push ends q x);
    bound = λ r x y. ap (λ c. is_bound c r x y) (at-next u earlier (Move (length ends) p q)) ∙ s.bound r x y;
    news = λ x h. no_news x earlier (Move (length ends) p q) (s.news x h) refl;
  }

  at_unbind : (p r k : ℕ) (t : ℕ → ℕ → Bool) (earlier : List Action) → 1 ≤ k → slot r (holder r k) ≡ k → IsAt u holder slot ends p t earlier → IsAt u holder slot ends p (dropping t (r, k)) (earlier ++ Unbind r (length ends) (holder r k) ∷ [])
  at_unbind p r k t earlier first own s = record {
    pairs = λ x. ap (λ c. pair_of c x) (at-next u earlier (Unbind r (length ends) (holder r k))) ∙ s.pairs x;
    bound = λ o x y.
        ap (λ c. is_bound c o x y) (at-next u earlier (Unbind r (length ends) (holder r k))) ∙ is_bound-untie (at u earlier) r (length ends) (holder r k) o x y
        ∙ (λ i. not (tied_same r k o x y first own i) && s.bound o x y i)
        ∙ untie_here (nat_eq o r) (nat_eq x (length ends)) (nat_eq (slot o y) k) (t o (slot o y)) (ends_want u ends x o (slot o y)) (own_end x o (slot o y));
    news = λ x h. no_news x earlier (Unbind r (length ends) (holder r k)) (s.news x h) refl;
  }

  pub at_finish : (p : ℕ) (earlier : List Action) → IsAt u holder slot ends p (wants u p) earlier → Stand u holder slot (ends ++ p ∷ []) earlier
  at_finish p earlier s = record {
    pairs = s.pairs;
    bound = λ r x y. s.bound r x y ∙ ends_now r x (slot r y);
    news = λ x h. s.news x (omega (arith, length-append ends (p ∷ [])));
  } where
    ends_now : (r x k : ℕ) → bound_slots u ends (wants u p) x r k ≡ ends_want u (ends ++ p ∷ []) x r k
    ends_now r x k =
        elim (nat_eq x (length ends)) as (λ b. nat_eq x (length ends) ≡ b → ((b && wants u p r k) || ends_want u ends x r k) ≡ option_map_or (λ e. wants u e r k) (cond b (Some p) (slice_get ends x)) false) [
          | true ↦ λ is. rw (own_end x r k is) (or-false (wants u p r k))
          | false ↦ λ _. refl
        ] refl
        ∙ ap (λ o. option_map_or (λ e. wants u e r k) o false) (sym (slice_get-push ends p x))

  -- ---- what is correct, allowed and steadfast

  -- each slot that an instance is bound to is filled
  all_filled : (x r k : ℕ) (t : ℕ → ℕ → Bool) → AreServed u holder slot ends → ((s j : ℕ) → t s j ≡ true → IsFilled u holder slot ends s j) → bound_slots u ends t x r k ≡ true → IsFilled u holder slot ends r k
  all_filled x r k t served filled needed = elim (or_cases (nat_eq x (length ends) && t r k) (ends_want u ends x r k) needed) [
    | inl next ↦ filled r k (and_parts (nat_eq x (length ends)) (t r k) next).1
    | inr old ↦ served x r k old
  ]

  filled_pair : (p r k : ℕ) (t : ℕ → ℕ → Bool) (earlier : List Action) → IsAt u holder slot ends p t earlier → (h : IsFilled u holder slot ends r k) → pair_of (at u earlier) (holder r k) ≡ Some h.pair
  filled_pair p r k t earlier s h = s.pairs (holder r k) ∙ slice_get-before ends (p ∷ []) (holder r k) h.stands ∙ h.there

  -- an instance that is bound to all slots that its pair needs has that many different providers
  pub correct_at : (p : ℕ) (t : ℕ → ℕ → Bool) (earlier : List Action) → IsAt u holder slot ends p t earlier → AreServed u holder slot ends → ((r k : ℕ) → wants u p r k ≡ true → t r k ≡ true)
      → ((r k : ℕ) → t r k ≡ true → IsFilled u holder slot ends r k) → Correct u (at u earlier)
  correct_at p t earlier s served enough filled x e r there required =
      IsMet-slots u (at u earlier) x r (λ k y. slot r y ≡ k) (demand_of u e r) each (λ j k y one two. sym one ∙ two) where
        pair : cond (nat_eq x (length ends)) (Some p) (slice_get ends x) ≡ Some e
        pair = sym (slice_get-push ends p x) ∙ sym (s.pairs x) ∙ there

        must : (k : ℕ) (b : Bool) (o : Option ℕ) → wants u e r k ≡ true → cond b (Some p) o ≡ Some e → ((b && t r k) || option_map_or (λ q. wants u q r k) o false) ≡ true
        must k true o wanted is = let same : p ≡ e = cc in or_left (t r k) _ (enough r k (subst (λ q. wants u q r k ≡ true) (sym same) wanted))
        must k false o wanted is = subst (λ v. option_map_or (λ q. wants u q r k) v false ≡ true) (sym is) wanted

        each : (k : ℕ) → 1 ≤ k → k ≤ demand_of u e r → (y : ℕ) × (slot r y ≡ k) × IsProvider u (at u earlier) x r y
        each k first last =
            let needed = must k (nat_eq x (length ends)) (slice_get ends x) (and_from _ _ (le-leb 1 k first) (le-leb k (demand_of u e r) last)) pair in
            let h = all_filled x r k t served filled needed in (
              holder r k,
              h.own,
              record {
                pair = h.pair;
                bound = s.bound r x (holder r k) ∙ ap (bound_slots u ends t x r) h.own ∙ needed;
                there = filled_pair p r k t earlier s h;
                gives = h.gives;
              },
            )

  -- nobody is bound to the next instance
  none_to_next : (p : ℕ) (t : ℕ → ℕ → Bool) (earlier : List Action) → IsAt u holder slot ends p t earlier → AreServed u holder slot ends → ((r k : ℕ) → t r k ≡ true → IsFilled u holder slot ends r k)
      → list_any (λ b. nat_eq b.2 (length ends)) (standing earlier) ≡ false
  none_to_next p t earlier s served filled =
      subst (λ bs. list_any (λ b. nat_eq b.2 (length ends)) bs ≡ false) (bindings-after_all u empty earlier) (unprovided (length ends) (at u earlier).bindings (λ r x. s.bound r x (length ends) ∙ neither r x)) where
        neither : (r x : ℕ) → bound_slots u ends t x r (slot r (length ends)) ≡ false
        neither r x =
            elim (bound_slots u ends t x r (slot r (length ends))) as (λ b. bound_slots u ends t x r (slot r (length ends)) ≡ b → b ≡ false) [
              | true ↦ λ is. let h = all_filled x r (slot r (length ends)) t served filled is in absurd (lower (length ends) (holder r (slot r (length ends))) (sym (back r (length ends) h.first)) h.stands)
              | false ↦ λ _. refl
            ] refl

  own_pair : (p : ℕ) (t : ℕ → ℕ → Bool) (earlier : List Action) → IsAt u holder slot ends p t earlier → pair_of (at u earlier) (length ends) ≡ Some p
  own_pair p t earlier s = s.pairs (length ends) ∙ get_at_end ends p

  of_pair : (o : Option ℕ) (p : ℕ) (P : ℕ → Type 0) → o ≡ Some p → P p → IsSomeAnd o P
  of_pair o p P is h = subst (λ v. IsSomeAnd v P) (sym is) h

  can_bind : (p r k : ℕ) (t : ℕ → ℕ → Bool) (earlier : List Action) → IsAt u holder slot ends p t earlier → type_requires u (type_of u p) r ≡ true → IsFilled u holder slot ends r k → t r k ≡ false
      → CanBind u (at u earlier) r (length ends) (holder r k)
  can_bind p r k t earlier s required h fresh = record {
    apart = λ e. absurd (lower (length ends) (holder r k) e h.stands);
    requirer = of_pair (pair_of (at u earlier) (length ends)) p (λ q. type_requires u (type_of u q) r ≡ true) (own_pair p t earlier s) required;
    provider = of_pair (pair_of (at u earlier) (holder r k)) h.pair (λ q. type_provides u (type_of u q) r ≡ true) (filled_pair p r k t earlier s h) (type_provides-own u h.pair r h.gives);
    unbound = s.bound r (length ends) (holder r k) ∙ ap (bound_slots u ends t (length ends) r) h.own ∙ unbound_yet;
  } where
    unbound_yet : bound_slots u ends t (length ends) r k ≡ false
    unbound_yet = rw (own_end (length ends) r k (eq-eqb (length ends) (length ends) refl), fresh, eq-eqb (length ends) (length ends) refl) refl

  steady_bind : (p r k : ℕ) (t : ℕ → ℕ → Bool) (earlier : List Action) → IsAt u holder slot ends p t earlier → IsFilled u holder slot ends r k → is_steadfast_after u earlier (Bind r (length ends) (holder r k)) ≡ true
  steady_bind p r k t earlier s h = ap (λ o. option_map_or (λ q. provides u q r) o false) (filled_pair p r k t earlier s h) ∙ h.gives

  next_filled : (r k : ℕ) (t : ℕ → ℕ → Bool) → IsFilled u holder slot ends r k → ((s j : ℕ) → t s j ≡ true → IsFilled u holder slot ends s j) → (s j : ℕ) → adding t (r, k) s j ≡ true → IsFilled u holder slot ends s j
  next_filled r k t h filled s j is = elim (or_cases (nat_eq s r && nat_eq j k) (t s j) is) [
    | inl same ↦
        let parts = and_parts (nat_eq s r) (nat_eq j k) same in
        subst (λ n. IsFilled u holder slot ends n j) (sym (eqb-true s r parts.0)) (subst (IsFilled u holder slot ends r) (sym (eqb-true j k parts.1)) h)
    | inr old ↦ filled s j old
  ]

  pub binds_go : (p : ℕ) (ss : List (ℕ × ℕ)) (t : ℕ → ℕ → Bool) (earlier : List Action) → IsAt u holder slot ends p t earlier → AreServed u holder slot ends → ((r k : ℕ) → wants u p r k ≡ true → t r k ≡ true)
      → ((r k : ℕ) → t r k ≡ true → IsFilled u holder slot ends r k) → Fresh t ss → ((r k : ℕ) → has_slot ss r k ≡ true → (type_requires u (type_of u p) r ≡ true) × IsFilled u holder slot ends r k)
      → GoesOn u earlier (slot_binds holder (length ends) ss) × IsAt u holder slot ends p (with_all t ss) (earlier ++ slot_binds holder (length ends) ss)
  binds_go p [] t earlier s served enough filled fresh all = (tt, subst (λ l. IsAt u holder slot ends p t l) (sym (append-nil earlier)) s)
  binds_go p (x ∷ ss) t earlier s served enough filled fresh all =
      let this = all x.0 x.1 (here x ss) in
      let a = Bind x.0 (length ends) (holder x.0 x.1) in
      let t' : ℕ → ℕ → Bool = adding t x in
      let after_it = at_bind p x.0 x.1 t earlier this.1.first this.1.own s in
      let enough' : (r k : ℕ) → wants u p r k ≡ true → t' r k ≡ true = λ r k h. or_right (nat_eq r x.0 && nat_eq k x.1) (t r k) (enough r k h) in
      let filled' = next_filled x.0 x.1 t this.1 filled in
      let rest = binds_go p ss t' (earlier ++ a ∷ []) after_it served enough' filled' fresh.1 (λ r k h. all r k (later x ss r k h)) in (
        (
          can_bind p x.0 x.1 t earlier s this.0 this.1 fresh.0,
          subst (Correct u) (at-next u earlier a) (correct_at p t' (earlier ++ a ∷ []) after_it served enough' filled'),
          steady_bind p x.0 x.1 t earlier s this.1,
          rest.0,
        ),
        subst (λ l. IsAt u holder slot ends p (with_all t' ss) l) (append_assoc earlier (a ∷ []) (slot_binds holder (length ends) ss)) rest.1,
      )

  pub unbinds_go : (p : ℕ) (ss : List (ℕ × ℕ)) (t : ℕ → ℕ → Bool) (earlier : List Action) → IsAt u holder slot ends p t earlier → AreServed u holder slot ends → ((r k : ℕ) → wants u p r k ≡ true → t r k ≡ true)
      → ((r k : ℕ) → t r k ≡ true → IsFilled u holder slot ends r k) → Ready t ss → ((r k : ℕ) → has_slot ss r k ≡ true → wants u p r k ≡ false)
      → GoesOn u earlier (slot_unbinds holder (length ends) ss) × IsAt u holder slot ends p (without_all t ss) (earlier ++ slot_unbinds holder (length ends) ss)
  unbinds_go p [] t earlier s served enough filled ready all = (tt, subst (λ l. IsAt u holder slot ends p t l) (sym (append-nil earlier)) s)
  unbinds_go p (x ∷ ss) t earlier s served enough filled ready all =
      let a = Unbind x.0 (length ends) (holder x.0 x.1) in
      let t' : ℕ → ℕ → Bool = dropping t x in
      let this = filled x.0 x.1 ready.0 in
      let after_it = at_unbind p x.0 x.1 t earlier this.first this.own s in
      let enough' : (r k : ℕ) → wants u p r k ≡ true → t' r k ≡ true = λ r k h. still x ss (wants u p) (all x.0 x.1 (here x ss)) r k h (enough r k h) in
      let filled' : (r k : ℕ) → t' r k ≡ true → IsFilled u holder slot ends r k = λ r k h. filled r k (and_parts (not (nat_eq r x.0 && nat_eq k x.1)) (t r k) h).1 in
      let rest = unbinds_go p ss t' (earlier ++ a ∷ []) after_it served enough' filled' ready.1 (λ r k h. all r k (later x ss r k h)) in (
        (
          s.bound x.0 (length ends) (holder x.0 x.1) ∙ ap (bound_slots u ends t (length ends) x.0) this.own ∙ rw (ready.0, eq-eqb (length ends) (length ends) refl) refl,
          subst (Correct u) (at-next u earlier a) (correct_at p t' (earlier ++ a ∷ []) after_it served enough' filled'),
          refl,
          rest.0,
        ),
        subst (λ l. IsAt u holder slot ends p (without_all t' ss) l) (append_assoc earlier (a ∷ []) (slot_unbinds holder (length ends) ss)) rest.1,
      ) where
        -- another slot stays
        still : (x : ℕ × ℕ) (ss : List (ℕ × ℕ)) (w : ℕ → ℕ → Bool) → w x.0 x.1 ≡ false → (r k : ℕ) → w r k ≡ true → t r k ≡ true → dropping t x r k ≡ true
        still x ss w none r k wanted bound = and_from _ _ (by (nat_eq r x.0 && nat_eq k x.1) refl) bound where
          by : (b : Bool) → (nat_eq r x.0 && nat_eq k x.1) ≡ b → not b ≡ true
          by true is =
              let parts = and_parts (nat_eq r x.0) (nat_eq k x.1) is in
              absurd (false≢true (sym none ∙ (sym (λ i. w (eqb-true r x.0 parts.0 i) (eqb-true k x.1 parts.1 i)) ∙ wanted)))
          by false is = refl

  pub move_goes : (p q : ℕ) (t : ℕ → ℕ → Bool) (earlier : List Action) → IsAt u holder slot ends p t earlier → AreServed u holder slot ends → has (next_of u p) q ≡ true → ((r k : ℕ) → wants u q r k ≡ true → t r k ≡ true)
      → ((r k : ℕ) → t r k ≡ true → IsFilled u holder slot ends r k) → GoesOn u earlier (Move (length ends) p q ∷ [])
  move_goes p q t earlier s served next enough filled =
      let a = Move (length ends) p q in
      ((own_pair p t earlier s, next), subst (Correct u) (at-next u earlier a) (correct_at q t (earlier ++ a ∷ []) (at_move p q t earlier s) served enough filled), ap not (none_to_next p t earlier s served filled), tt)
