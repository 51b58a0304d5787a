-- The first of some ascending numbers, and lists of different numbers.
use Rattle.std.proofs.Common.{◌≡◌, ℕ, zero, suc, ◌+◌, ◌-◌, ◌<◌, ◌≤◌, true, false, not, ◌&&◌, List, [], ◌∷◌, ◌++◌, take, length, get_or, sym, ap, ◌∙◌, arith, nat_eq, inl, inr}
use Rattle.std.specs.List.Sorted.{IsStrictlyIncreasing, IsStrictlySortedBy}
use Rattle.std.specs.Ordering.{nat_cmp}
use Rattle.std.proofs.lemmas.Bool.{and_from, and_parts, cases_lt, both_ways, eqb-true, false_from_ne_true, false≢true, not-true, or_cases, or_from, or_right}
use Rattle.std.proofs.lemmas.Map.Keys.{below_from_sorted, sorted_from_strictly_increasing}
use Rattle.metis_ids.proofs.Lists.{has-append, has_here, has_take, none_above}
use Rattle.metis_universe.specs.Terms.{AreDifferent, has}

-- what is in the front stands at a place there
pub in_front : (n : ℕ) (xs : List ℕ) (y : ℕ) → has (take n xs) y ≡ true → (j : ℕ) × (j < n) × (j < length xs) × (get_or xs j 0 ≡ y)
in_front zero xs y h = absurd (false≢true h)
in_front (suc n) [] y h = absurd (false≢true h)
in_front (suc n) (x ∷ xs) y h = elim (or_cases (nat_eq x y) (has (take n xs) y) h) [
  | inl now ↦ (0, omega arith, omega arith, eqb-true x y now)
  | inr later ↦ let rest = in_front n xs y later in (suc rest.0, omega (arith, rest.1), omega (arith, rest.2), rest.3)
]

-- a front of none has none
pub empty_front : (n : ℕ) (xs : List ℕ) (y : ℕ) → n ≡ 0 → has (take n xs) y ≡ false
empty_front n xs y none = ap (λ k. has (take k xs) y) none

pub front_has : (n : ℕ) (xs : List ℕ) (j : ℕ) → j < n → j < length xs → has (take n xs) (get_or xs j 0) ≡ true
front_has zero xs j before low = absurd (omega arith)
front_has (suc n) [] j before low = absurd (omega arith)
front_has (suc n) (x ∷ xs) zero before low = has_here x (take n xs)
front_has (suc n) (x ∷ xs) (suc j) before low = or_right (nat_eq x (get_or xs j 0)) (has (take n xs) (get_or xs j 0)) (front_has n xs j (omega arith) (omega arith))

-- ---- ascending numbers

module _ (xs : List ℕ) (up : IsStrictlyIncreasing xs) where
  pub rises : (i j : ℕ) → i < j → j < length xs → get_or xs i 0 < get_or xs j 0
  rises i j before low = below_from_sorted xs i j 0 (sorted_from_strictly_increasing xs up) before low

  -- what stands past a front is not in it
  past_front : (n j : ℕ) → n ≤ j → j < length xs → has (take n xs) (get_or xs j 0) ≡ false
  past_front n j past low = false_from_ne_true _ (λ h.
      let at = in_front n xs (get_or xs j 0) h in
      let less = rises at.0 j (omega (arith, at.1)) low in
      omega (arith, at.3, less))

  -- the numbers of a front and not of another are those at slots between
  pub slot_passed : (m n k : ℕ) → m + 1 ≤ k → k ≤ n → n ≤ length xs → (has (take n xs) (get_or xs (k - 1) 0) && not (has (take m xs) (get_or xs (k - 1) 0))) ≡ true
  slot_passed m n k first last low =
      and_from _ _ (front_has n xs (k - 1) (omega arith) (omega arith)) (ap not (past_front m (k - 1) (omega arith) (omega arith)))

pub passed_slot : (xs : List ℕ) (m n y : ℕ) → (has (take n xs) y && not (has (take m xs) y)) ≡ true → (k : ℕ) × (m + 1 ≤ k) × (k ≤ n) × (get_or xs (k - 1) 0 ≡ y)
passed_slot xs m n y h =
    let parts = and_parts (has (take n xs) y) (not (has (take m xs) y)) h in
    let at = in_front n xs y parts.0 in
    let place : at.0 + 1 - 1 ≡ at.0 = omega arith in
    elim (cases_lt at.0 m) [
      | inl inside ↦ absurd (both_ways (has (take m xs) y) (not-true _ parts.1) (ap (has (take m xs)) (sym at.3) ∙ front_has m xs at.0 inside at.2))
      | inr past ↦ (at.0 + 1, omega (arith, past), omega (arith, at.1), ap (λ k. get_or xs k 0) place ∙ at.3)
    ]

-- ---- different numbers

pub front_differs : (n : ℕ) (xs : List ℕ) → AreDifferent xs → AreDifferent (take n xs)
front_differs zero xs differ = tt
front_differs (suc n) [] differ = tt
front_differs (suc n) (x ∷ xs) differ = (
  false_from_ne_true _ (λ again. both_ways (has xs x) differ.0 (has_take xs n x again)),
  front_differs n xs differ.1,
)

pub append_differs : (xs ys : List ℕ) → AreDifferent xs → AreDifferent ys → ((x : ℕ) → has xs x ≡ true → has ys x ≡ false) → AreDifferent (xs ++ ys)
append_differs [] ys one two apart = two
append_differs (x ∷ xs) ys one two apart = (
  has-append xs ys x ∙ or_from (has xs x) (has ys x) one.0 (apart x (has_here x xs)),
  append_differs xs ys one.1 two (λ y h. apart y (or_right (nat_eq x y) (has xs y) h)),
)
