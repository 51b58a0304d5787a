-- The numbers that an action waits for, gathered in a set.
use Rattle.std.proofs.Common.{◌≡◌, ℕ, zero, suc, ◌<◌, ◌≤◌, Bool, true, false, cond, ◌&&◌, ◌||◌, List, length, refl, sym, ap, subst, ◌∙◌, arith, nat_eq, nat_lt, nat_cmp, inl, inr}
use Rattle.std.proofs.lemmas.Bool.{cases_lt, eqb-true, false_from_ne_true, le-ltb, lt-ltb}
use Rattle.std.proofs.lemmas.Bool.Decides.{nat_tests}
use Rattle.std.proofs.lemmas.Cmp.{nat_cmp_total}
use Rattle.std.proofs.lemmas.List.Kept.{IsStrictlySortedBy-filter}
use Rattle.std.specs.BTreeSet.{insert_key}
use Rattle.std.specs.List.{filter}
use Rattle.std.specs.List.Sorted.{IsStrictlySortedBy}
use Rattle.std.specs.Option.{option_map_or}
use Rattle.std.proofs.Math.Bool.{and-false}
use Rattle.metis_ids.specs.declared.actions.Action.{Action}
use Rattle.metis_ids.proofs.Lists.{has_range}
use Rattle.metis_universe.proofs.Ascending.{has-insert_key}
use Rattle.metis_universe.proofs.InOrder.{same_members}
use Rattle.metis_universe.proofs.Ranges.{in_range}
use Rattle.metis_universe.proofs.Rounds.{has-filter}
use Rattle.metis_universe.proofs.Sorted.{IsStrictlySortedBy-insert_key}
use Rattle.metis_universe.specs.Terms.{before, enters, has, is_release_of, is_wait, last_number, numbers, releases, standing}
use Rattle.metis_waits.proofs.Pushed.{get_past}
use Rattle.metis_waits.proofs.Risen.{range_sorted}
use Rattle.metis_waits.specs.Terms.{has_number, is_by, with_number}

pub last_low : (p : Action → Bool) (xs : List Action) → last_number p xs ≤ length xs
last_low p xs = omega arith

and_true : (b : Bool) → b ≡ (b && true)
and_true true = refl
and_true false = refl

-- one more number at its place
module _ (n : ℕ) (ns : List ℕ) where
  pub members_with : (m : ℕ) → has (with_number n ns) m ≡ (has ns m || has_number n m)
  members_with m = elim (nat_eq n 0) as (λ b. nat_eq n 0 ≡ b → has (cond b ns (insert_key nat_cmp ns n)) m ≡ (has ns m || (nat_lt 0 m && nat_eq m n))) [
    | true ↦ λ none. no_more (has ns m) n m (eqb-true n 0 none)
    | false ↦ λ some. has-insert_key m n ns ∙ ap (λ b. b || has ns m) (test n m some) ∙ swap (nat_lt 0 m && nat_eq m n) (has ns m)
  ] refl where
    no_more : (b : Bool) (n m : ℕ) → n ≡ 0 → b ≡ (b || (nat_lt 0 m && nat_eq m n))
    no_more b n m e = grind (arith, nat_tests)

    test : (n m : ℕ) → nat_eq n 0 ≡ false → nat_eq n m ≡ (nat_lt 0 m && nat_eq m n)
    test n m some = grind (arith, nat_tests)

    swap : (a b : Bool) → (a || b) ≡ (b || a)
    swap true true = refl
    swap true false = refl
    swap false true = refl
    swap false false = refl

  pub sorted_with : IsStrictlySortedBy nat_cmp ns → IsStrictlySortedBy nat_cmp (with_number n ns)
  sorted_with s = elim (nat_eq n 0) as (λ b. IsStrictlySortedBy nat_cmp (cond b ns (insert_key nat_cmp ns n))) [ true ↦ s | false ↦ IsStrictlySortedBy-insert_key nat_cmp_total ns n s ]

module _ (earlier : List Action) where
  within : (m : ℕ) → 0 < m → m ≤ length earlier → has (numbers earlier) m ≡ true
  within m low high = has_range 1 (length earlier) m (omega arith) (omega arith)

  number_within : (n m : ℕ) → n ≤ length earlier → (nat_lt 0 m && nat_eq m n) ≡ (nat_eq m n && has (numbers earlier) m)
  number_within n m high = elim (nat_eq m n) as (λ b. nat_eq m n ≡ b → (nat_lt 0 m && b) ≡ (b && has (numbers earlier) m)) [
    | true ↦ λ at. let e = eqb-true m n at in elim (cases_lt 0 m) [
      | inl up ↦ ap (λ b. b && true) (lt-ltb 0 m up) ∙ sym (within m up (omega arith))
      | inr none ↦ ap (λ b. b && true) (le-ltb 0 m none) ∙ sym (false_from_ne_true _ (λ h. omega (arith, (in_range 1 (length earlier) m h).0)))
    ]
    | false ↦ λ _. and-false (nat_lt 0 m)
  ] refl

  release_within : (y m : ℕ) → is_release_of y earlier m ≡ (is_release_of y earlier m && has (numbers earlier) m)
  release_within y zero = ap (λ b. b) (and-false (nat_lt (last_number (enters y) earlier) 0)) ∙ sym (ap (λ b. b && has (numbers earlier) 0) (and-false (nat_lt (last_number (enters y) earlier) 0)))
  release_within y (suc i) = elim (cases_lt i (length earlier)) [
    | inl less ↦ and_true (is_release_of y earlier (suc i)) ∙ ap (λ b. is_release_of y earlier (suc i) && b) (sym (within (suc i) (omega arith) (omega arith)))
    | inr more ↦
        let none : is_release_of y earlier (suc i) ≡ false = ap (λ o. nat_lt (last_number (enters y) earlier) (suc i) && option_map_or (releases y (standing (before (suc i) earlier))) o false) (get_past earlier i more) ∙ and-false (nat_lt (last_number (enters y) earlier) (suc i)) in
        none ∙ sym (ap (λ b. b && has (numbers earlier) (suc i)) none)
  ]

  -- h m tells whether m is the actor's previous action
  module _ (z own : ℕ) (h : ℕ → Bool) (is : own ≡ last_number (is_by z) earlier) (first : (m : ℕ) → h m ≡ has_number own m) where
    -- the actor's previous action alone
    pub own_alone : (m : ℕ) → h m ≡ (nat_eq m (last_number (is_by z) earlier) && has (numbers earlier) m)
    own_alone m = first m ∙ (λ i. nat_lt 0 m && nat_eq m (is i)) ∙ number_within (last_number (is_by z) earlier) m (last_low (is_by z) earlier)

    both : (a b r : Bool) → ((b && r) || (a && r)) ≡ ((a || b) && r)
    both true true true = refl
    both true true false = refl
    both true false r = refl
    both false true true = refl
    both false true false = refl
    both false false r = refl

    -- and the provider's entry
    pub own_and_entry : (y entry : ℕ) (ks : List ℕ) → entry ≡ last_number (enters y) earlier → ((m : ℕ) → has ks m ≡ (has_number entry m || h m)) →
        (m : ℕ) → has ks m ≡ ((nat_eq m (last_number (is_by z) earlier) || nat_eq m (last_number (enters y) earlier)) && has (numbers earlier) m)
    own_and_entry y entry ks at second m =
        second m ∙ (λ i. (nat_lt 0 m && nat_eq m (at i)) || own_alone m i)
        ∙ ap (λ b. b || (nat_eq m (last_number (is_by z) earlier) && has (numbers earlier) m)) (number_within (last_number (enters y) earlier) m (last_low (enters y) earlier))
        ∙ both (nat_eq m (last_number (is_by z) earlier)) (nat_eq m (last_number (enters y) earlier)) (has (numbers earlier) m)

    -- and the releases
    pub own_and_releases : (y : ℕ) (ks : List ℕ) → ((m : ℕ) → has ks m ≡ (is_release_of y earlier m || h m)) →
        (m : ℕ) → has ks m ≡ ((nat_eq m (last_number (is_by z) earlier) || is_release_of y earlier m) && has (numbers earlier) m)
    own_and_releases y ks second m =
        second m ∙ (λ i. release_within y m i || own_alone m i)
        ∙ both (nat_eq m (last_number (is_by z) earlier)) (is_release_of y earlier m) (has (numbers earlier) m)

  -- in order they are the list
  pub listed : (a : Action) (ks : List ℕ) → IsStrictlySortedBy nat_cmp ks → ((m : ℕ) → has ks m ≡ (is_wait earlier a m && has (numbers earlier) m)) → ks ≡ filter (is_wait earlier a) (numbers earlier)
  listed a ks s h = same_members ks (filter (is_wait earlier a) (numbers earlier)) s (IsStrictlySortedBy-filter nat_cmp (is_wait earlier a) (numbers earlier) (range_sorted 1 (length earlier)))
      (λ m. h m ∙ sym (has-filter (is_wait earlier a) m (numbers earlier)))

  -- the actor's previous action, at its place among what released it
  module _ (y n : ℕ) (rel xs : List ℕ) (own : n ≡ last_number (is_by y) earlier) (all : rel ≡ filter (is_release_of y earlier) (numbers earlier)) (is : xs ≡ with_number n rel) where
    pub releases_sorted : IsStrictlySortedBy nat_cmp xs
    releases_sorted = subst (IsStrictlySortedBy nat_cmp) (sym is) (sorted_with n rel (subst (IsStrictlySortedBy nat_cmp) (sym all) (IsStrictlySortedBy-filter nat_cmp (is_release_of y earlier) (numbers earlier) (range_sorted 1 (length earlier)))))

    pub releases_members : (m : ℕ) → has xs m ≡ ((nat_eq m (last_number (is_by y) earlier) || is_release_of y earlier m) && has (numbers earlier) m)
    releases_members = own_and_releases y n (has_number n) own (λ _. refl) y xs (λ m.
        ap (λ l. has l m) is ∙ members_with n rel m
        ∙ ap (λ b. b || has_number n m) (ap (λ l. has l m) all ∙ has-filter (is_release_of y earlier) m (numbers earlier) ∙ sym (release_within y m)))
