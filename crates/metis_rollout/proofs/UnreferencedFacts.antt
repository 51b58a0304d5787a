-- The unreferenced instances while they are removed.
use Rattle.std.proofs.Common.{◌≡◌, ℕ, ◌<◌, ◌≤◌, Bool, true, false, cond, not, ◌&&◌, ◌||◌, List, [], ◌∷◌, Some, None, refl, sym, ap, ◌∙◌, subst, arith, nat_eq, length, inl, inr}
use Rattle.std.specs.List.{All, AllByRecursion, filter, find, list_any}
use Rattle.std.specs.List.Sorted.{IsStrictlySortedBy}
use Rattle.std.specs.BTreeMap.Range.{IsLtBy}
use Rattle.std.specs.BTreeSet.{insert_key}
use Rattle.metis_universe.proofs.Ascending.{has-insert_key}
use Rattle.std.specs.Map.{keys_of}
use Rattle.std.specs.Ordering.{nat_cmp}
use Rattle.std.proofs.lemmas.Bool.{and_parts, cases_eq, eq-eqb, eqb-true, false_from_ne_true, false≢true, ne_eqb, or_cases, or_left, or_right, both_ways}
use Rattle.std.proofs.lemmas.Bool.Decides.{nat_tests}
use Rattle.std.proofs.lemmas.List.Elements.{recursion_from_All}
use Rattle.std.proofs.lemmas.Map.Views.{any-filter_same}
use Rattle.metis_ids.proofs.Lists.{above_head, above_rest}
use Rattle.metis_ids.proofs.Tests.{eq_comm}
use Rattle.metis_universe.specs.Terms.{Binding, Config, IsConfig, config_of, has, is_bound, is_tie, remove, untie}
use Rattle.metis_universe.proofs.Edits.{tie_is}
use Rattle.metis_universe.proofs.Sorted.{keys_of-filter}
use Rattle.metis_config.proofs.Removed.{others}
use Rattle.metis_rollout.specs.Terms.{AreUnreferenced, AreUnreferencedBut, is_referenced, is_unreferenced, members, next_unreferenced}
use Rattle.metis_rollout.proofs.Going.{unpointed}
use Rattle.metis_rollout.proofs.Quiet.{find_some, keys-has}

-- ---- whether a binding points to an instance

pub bound_points : (c : Config) (r z y : ℕ) → is_bound c r z y ≡ true → is_referenced c y ≡ true
bound_points c r z y h = elim (is_referenced c y) as (λ b. is_referenced c y ≡ b → b ≡ true) [
  | true ↦ λ _. refl
  | false ↦ λ none. absurd (both_ways (is_bound c r z y) (unpointed c y none r z) h)
] refl

-- ---- the least unreferenced instance

find_first : (t : ℕ → Bool) (xs : List ℕ) (z : ℕ) → IsStrictlySortedBy nat_cmp xs → has xs z ≡ true → t z ≡ true → ((w : ℕ) → has xs w ≡ true → t w ≡ true → z ≤ w) → find t xs ≡ Some z
unfolding IsStrictlySortedBy
find_first t [] z s h pass least = absurd (false≢true h)
find_first t (x ∷ xs) z s h pass least = elim (t x) as (λ b. t x ≡ b → cond b (Some x) (find t xs) ≡ Some z) [
  | true ↦ λ at. elim (or_cases (nat_eq x z) (has xs z) h) [
    | inl now ↦ ap Some (eqb-true x z now)
    | inr later ↦
        let above = above_head x z xs s.0 later in
        let low = least x (or_left (nat_eq x x) (has xs x) (eq-eqb x x refl)) at in
        absurd (omega arith)
  ]
  | false ↦ λ out. elim (or_cases (nat_eq x z) (has xs z) h) [
    | inl now ↦ absurd (both_ways (t z) (ap t (sym (eqb-true x z now)) ∙ out) pass)
    | inr later ↦ find_first t xs z s.1 later pass (λ w there passes. least w (or_right (nat_eq x w) (has xs w) there) passes)
  ]
] refl

-- whether the instance goes, and no binding points to it
abbrev pub is_free : (ℕ → Bool) → Config → ℕ → Bool
is_free goes c z = goes z && not (is_referenced c z)

module _ (goes : ℕ → Bool) where
  pub next_is : (c : Config) (unreferenced rest : List ℕ) (z : ℕ) → IsConfig c → AreUnreferenced goes c unreferenced → unreferenced ≡ z ∷ rest → All (IsLtBy nat_cmp z) rest → next_unreferenced goes c ≡ Some z
  next_is c unreferenced rest z k same is above =
      let there : is_unreferenced goes c z ≡ true = sym (same z) ∙ ap (λ l. has l z) is ∙ or_left (nat_eq z z) (has rest z) (eq-eqb z z refl) in
      let parts = and_parts (has (members c) z) (is_free goes c z) there in
      find_first (is_free goes c) (members c) z k.ascending parts.0 parts.1
      (λ w member free. low w (ap (λ l. has l w) (sym is) ∙ same w ∙ (λ i. member i && free i))) where
        low : (w : ℕ) → (nat_eq z w || has rest w) ≡ true → z ≤ w
        low w h = elim (or_cases (nat_eq z w) (has rest w) h) [
          | inl now ↦ let e = eqb-true z w now in omega arith
          | inr later ↦ above_rest z w rest (recursion_from_All (IsLtBy nat_cmp z) rest above) later
        ]

  pub none_is : (c : Config) (unreferenced : List ℕ) → AreUnreferenced goes c unreferenced → unreferenced ≡ [] → next_unreferenced goes c ≡ None
  none_is c unreferenced same is = elim (next_unreferenced goes c) as (λ o. next_unreferenced goes c ≡ o → o ≡ None) [
    | None ↦ λ _. refl
    | Some z ↦ λ found.
        let first = find_some (is_free goes c) (members c) z found in
        absurd (both_ways (has unreferenced z) (ap (λ l. has l z) is) (same z ∙ (λ i. first.0 i && first.1 i)))
  ] refl

  -- what is left where the least is taken out
  pub but_first : (c : Config) (unreferenced rest : List ℕ) (z : ℕ) → AreUnreferenced goes c unreferenced → unreferenced ≡ z ∷ rest → All (IsLtBy nat_cmp z) rest → AreUnreferencedBut goes c z rest
  but_first c unreferenced rest z same is above = λ w. elim (cases_eq w z) [
    | inl here ↦ subst (λ v. has rest v ≡ (not (nat_eq v z) && is_unreferenced goes c v)) (sym here) (false_from_ne_true (has rest z) not_there ∙ sym (ap (λ b. not b && is_unreferenced goes c z) (eq-eqb z z refl)))
    | inr other ↦ ap (λ b. b || has rest w) (sym (ne_eqb z w (λ e. other (sym e)))) ∙ ap (λ l. has l w) (sym is) ∙ same w ∙ sym (ap (λ b. not b && is_unreferenced goes c w) (ne_eqb w z other))
  ] where
    below : (xs : List ℕ) → AllByRecursion (IsLtBy nat_cmp z) xs → has xs z ≡ true → ⊥
    below [] all h = false≢true h
    below (y ∷ xs) all h = elim (or_cases (nat_eq y z) (has xs z) h) [
      | inl now ↦ let e = eqb-true y z now in let l = all.0 in grind (arith, nat_tests)
      | inr later ↦ below xs all.1 later
    ]

    not_there : has rest z ≡ true → ⊥
    not_there h = below rest (recursion_from_All (IsLtBy nat_cmp z) rest above) h

  pub first_free : (c : Config) (unreferenced rest : List ℕ) (z : ℕ) → AreUnreferenced goes c unreferenced → unreferenced ≡ z ∷ rest → is_referenced c z ≡ false
  first_free c unreferenced rest z same is =
      let there : is_unreferenced goes c z ≡ true = sym (same z) ∙ ap (λ l. has l z) is ∙ or_left (nat_eq z z) (has rest z) (eq-eqb z z refl) in
      not_true (is_referenced c z) (and_parts (goes z) (not (is_referenced c z)) (and_parts (has (members c) z) (is_free goes c z) there).1).1 where
        not_true : (b : Bool) → not b ≡ true → b ≡ false
        not_true true h = absurd (false≢true h)
        not_true false h = refl

-- ---- one binding is cut

is_referenced-untie : (c : Config) (r z y w : ℕ) → nat_eq w y ≡ false → is_referenced (untie c r z y) w ≡ is_referenced c w
is_referenced-untie c r z y w other = any-filter_same (λ b. nat_eq b.2 w) (λ b. not (is_tie r z y b)) true (λ b at. kept b at) c.bindings where
  kept : (b : Binding) → nat_eq b.2 w ≡ true → not (is_tie r z y b) ≡ true
  kept b at = ap not (false_from_ne_true (is_tie r z y b) (λ h. both_ways (nat_eq w y) other (eq-eqb w y (sym (eqb-true b.2 w at) ∙ ap (λ (x : Binding). x.2) (tie_is r z y b h)))))

module _ (goes : ℕ → Bool) where
  pub but_cut : (c d : Config) (unreferenced unreferenced' : List ℕ) (r z y : ℕ) → IsConfig c → is_bound c r z y ≡ true → d ≡ untie c r z y → AreUnreferencedBut goes c z unreferenced
      → ((w : ℕ) → has unreferenced' w ≡ (has unreferenced w || (nat_eq w y && is_free goes d y))) → AreUnreferencedBut goes d z unreferenced'
  but_cut c d unreferenced unreferenced' r z y k bound is same now = subst (λ e. AreUnreferencedBut goes e z unreferenced') (sym is) (λ w. elim (cases_eq w y) [
    | inl here ↦ subst (λ v. has unreferenced' v ≡ (not (nat_eq v z) && is_unreferenced goes (untie c r z y) v)) (sym here) at_provider
    | inr other ↦ now w ∙ ap (λ b. has unreferenced w || (b && is_free goes d y)) (ne_eqb w y other) ∙ or_false (has unreferenced w) ∙ same w
        ∙ ap (λ b. not (nat_eq w z) && (has (members c) w && (goes w && not b))) (sym (is_referenced-untie c r z y w (ne_eqb w y other)))
  ]) where
    or_false : (b : Bool) → (b || false) ≡ b
    or_false true = refl
    or_false false = refl

    and_false : (b : Bool) → (b && false) ≡ false
    and_false true = refl
    and_false false = refl

    member : has (members c) y ≡ true
    member = keys-has c.instances y (k.provider r z y bound)

    apart : nat_eq y z ≡ false
    apart = ne_eqb y z (λ e. k.apart r z y bound (sym e))

    was : has unreferenced y ≡ false
    was = same y ∙ ap (λ b. not (nat_eq y z) && (has (members c) y && (goes y && not b))) (bound_points c r z y bound) ∙ ap (λ b. not (nat_eq y z) && (has (members c) y && b)) (and_false (goes y))
        ∙ ap (λ b. not (nat_eq y z) && b) (and_false (has (members c) y)) ∙ and_false (not (nat_eq y z))

    at_provider : has unreferenced' y ≡ (not (nat_eq y z) && is_unreferenced goes (untie c r z y) y)
    at_provider = now y ∙ (λ i. was i || (eq-eqb y y refl i && is_free goes d y)) ∙ ap (λ (e : Config). is_free goes e y) is
        ∙ sym (λ i. not (apart i) && (member i && is_free goes (untie c r z y) y))

  -- ---- the instance goes

  assoc : (a b c : Bool) → (a && (b && c)) ≡ ((a && b) && c)
  assoc true b c = refl
  assoc false b c = refl

  pub gone : (c d e : Config) (unreferenced : List ℕ) (z : ℕ) → d.instances ≡ c.instances → others z d.bindings ≡ others z c.bindings → others z d.bindings ≡ d.bindings
      → AreUnreferencedBut goes d z unreferenced → e ≡ remove d z → (e ≡ remove c z) × AreUnreferenced goes e unreferenced
  gone c d e unreferenced z instances bindings all same is = (
    is ∙ (λ i. config_of (filter (λ e. not (nat_eq e.0 z)) (instances i)) (bindings i)),
    subst (λ f. AreUnreferenced goes f unreferenced) (sym is) (λ w. same w ∙ assoc (not (nat_eq w z)) (has (members d) w) (is_free goes d w)
        ∙ (λ i. sym (member w) i && (goes w && not (sym (pointed w) i)))),
  ) where
    member : (w : ℕ) → has (members (remove d z)) w ≡ (not (nat_eq w z) && has (members d) w)
    member w = ap (λ l. has l w) (keys_of-filter (λ k. not (nat_eq k z)) d.instances) ∙ any-filter_same (λ x. nat_eq x w) (λ k. not (nat_eq k z)) (not (nat_eq w z)) (λ x at. ap (λ k. not (nat_eq k z)) (eqb-true x w at)) (members d)

    pointed : (w : ℕ) → is_referenced (remove d z) w ≡ is_referenced d w
    pointed w = ap (list_any (λ b. nat_eq b.2 w)) all

  -- ---- the unreferenced instances one by one

  -- the unreferenced instances are those that were put in and those among the instances to come
  abbrev pub AreUnreferencedWith : Config → List ℕ → List (ℕ × ℕ) → Type 0
  AreUnreferencedWith c unreferenced rest = (z : ℕ) → is_unreferenced goes c z ≡ (has unreferenced z || (has (keys_of rest) z && is_free goes c z))

  pub unreferenced_next : (c : Config) (unreferenced unreferenced' : List ℕ) (old rest : List (ℕ × ℕ)) (e : ℕ × ℕ) → AreUnreferencedWith c unreferenced old → old ≡ e ∷ rest
      → ((w : ℕ) → has unreferenced' w ≡ (has unreferenced w || (nat_eq w e.0 && is_free goes c e.0))) → AreUnreferencedWith c unreferenced' rest
  unreferenced_next c unreferenced unreferenced' old rest e same is now = λ w.
      same w ∙ ap (λ l. has unreferenced w || (has (keys_of l) w && is_free goes c w)) is
      ∙ split (has unreferenced w) (nat_eq e.0 w) (has (keys_of rest) w) (is_free goes c w)
      ∙ ap (λ b. (has unreferenced w || b) || (has (keys_of rest) w && is_free goes c w)) (own w)
      ∙ ap (λ b. b || (has (keys_of rest) w && is_free goes c w)) (sym (now w)) where
        split : (a b d f : Bool) → (a || ((b || d) && f)) ≡ ((a || (b && f)) || (d && f))
        split true b d f = refl
        split false true true true = refl
        split false true true false = refl
        split false true false true = refl
        split false true false false = refl
        split false false d f = refl

        own : (w : ℕ) → (nat_eq e.0 w && is_free goes c w) ≡ (nat_eq w e.0 && is_free goes c e.0)
        own w = elim (cases_eq w e.0) [
          | inl here ↦ λ i. eq_comm e.0 w i && is_free goes c (here i)
          | inr other ↦ ap (λ b. b && is_free goes c w) (ne_eqb e.0 w (λ x. other (sym x))) ∙ sym (ap (λ b. b && is_free goes c e.0) (ne_eqb w e.0 other))
        ]

  pub unreferenced_are : (c : Config) (unreferenced : List ℕ) (rest : List (ℕ × ℕ)) → AreUnreferencedWith c unreferenced rest → rest ≡ [] → AreUnreferenced goes c unreferenced
  unreferenced_are c unreferenced rest same is = λ z. sym (same z ∙ ap (λ l. has unreferenced z || (has (keys_of l) z && is_free goes c z)) is ∙ or_false (has unreferenced z)) where
    or_false : (b : Bool) → (b || false) ≡ b
    or_false true = refl
    or_false false = refl

  pub inserted : (c : Config) (y : ℕ) (unreferenced unreferenced' : List ℕ) → is_free goes c y ≡ true → unreferenced' ≡ insert_key nat_cmp unreferenced y
      → (z : ℕ) → has unreferenced' z ≡ (has unreferenced z || (nat_eq z y && is_free goes c y))
  inserted c y unreferenced unreferenced' free is z =
      ap (λ l. has l z) is ∙ has-insert_key z y unreferenced ∙ ap (λ b. b || has unreferenced z) (eq_comm y z) ∙ turn (nat_eq z y) (has unreferenced z)
      ∙ sym (ap (λ b. has unreferenced z || (nat_eq z y && b)) free) where
        turn : (a b : Bool) → (a || b) ≡ (b || (a && true))
        turn true true = refl
        turn true false = refl
        turn false true = refl
        turn false false = refl

  pub not_inserted : (c : Config) (y : ℕ) (unreferenced : List ℕ) → is_free goes c y ≡ false → (z : ℕ) → has unreferenced z ≡ (has unreferenced z || (nat_eq z y && is_free goes c y))
  not_inserted c y unreferenced free z = sym (ap (λ b. has unreferenced z || (nat_eq z y && b)) free ∙ none (has unreferenced z) (nat_eq z y)) where
    none : (a b : Bool) → (a || (b && false)) ≡ a
    none true b = refl
    none false true = refl
    none false false = refl

pub no_keys : (ks : List ℕ) → (0 < length ks → false ≡ true) → ks ≡ []
no_keys [] h = refl
no_keys (k ∷ ks) h = absurd (false≢true (h (omega arith)))
