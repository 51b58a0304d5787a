-- Lists of numbers that rise, and their fronts.
use Rattle.std.proofs.Common.{◌≡◌, ℕ, zero, suc, ◌+◌, ◌<◌, ◌≤◌, Bool, true, false, cond, ◌||◌, ◌&&◌, List, [], ◌∷◌, Some, refl, sym, ap, ◌∙◌, arith, inl, inr, nat_eq, nat_lt, take}
use Rattle.std.specs.Prelude.{slice_get}
use Rattle.std.specs.List.{filter, range_with_len}
use Rattle.std.proofs.lemmas.Bool.{false≢true, and_parts, and_from, or_left, or_cases, or_parts, eq-eqb, eqb-true, lt-ltb, ltb-true, cases_Bool, cases_order, both_ways, false_from_ne_true}
use Rattle.std.proofs.lemmas.Option.{none-some, same_Some}
use Rattle.metis_universe.specs.Terms.{has}

-- each number is above those before it, and none is below b
abbrev pub IsRising : ℕ → List ℕ → Type 0
IsRising b [] = Unit {0}
IsRising b (x ∷ xs) = (b ≤ x) × IsRising (suc x) xs

pub none_taken : (xs : List ℕ) (x : ℕ) → has (take zero xs) x ≡ false
none_taken [] x = refl
none_taken (y ∷ ys) x = refl

pub low_of : (b : ℕ) (xs : List ℕ) (x : ℕ) → IsRising b xs → has xs x ≡ true → b ≤ x
low_of b [] x r h = absurd (false≢true h)
low_of b (y ∷ ys) x r h = elim (or_cases (nat_eq y x) (has ys x) h) [
  | inl at ↦ let e = eqb-true y x at in omega (arith, r.0)
  | inr there ↦ let low = low_of (suc y) ys x r.1 there in omega (arith, r.0)
]

pub has_at : (xs : List ℕ) (c k : ℕ) → slice_get xs c ≡ Some k → has xs k ≡ true
has_at [] c k h = absurd (none-some k h)
has_at (y ∷ ys) zero k h = or_left _ _ (eq-eqb y k (same_Some y k h))
has_at (y ∷ ys) (suc c) k h = behind (nat_eq y k) (has_at ys c k h) where
  behind : (b : Bool) {v : Bool} → v ≡ true → (b || v) ≡ true
  behind true e = refl
  behind false e = e

-- what stands before place c is what is below the number there
pub front_has : (b : ℕ) (xs : List ℕ) (c k x : ℕ) → IsRising b xs → slice_get xs c ≡ Some k → has (take c xs) x ≡ (has xs x && nat_lt x k)
front_has b [] c k x r h = absurd (none-some k h)
front_has b (y ∷ ys) zero k x r h =
    sym (false_from_ne_true _ (λ both.
    let parts = and_parts (has (y ∷ ys) x) (nat_lt x k) both in
    let low = low_of y (y ∷ ys) x (omega arith, r.1) parts.0 in
    let less = ltb-true x k parts.1 in
    let e = same_Some y k h in
    absurd (omega arith)))
front_has b (y ∷ ys) (suc c) k x r h =
    let rest = front_has (suc y) ys c k x r.1 h in
    let above = low_of (suc y) ys k r.1 (has_at ys c k h) in
    elim (cases_Bool (nat_eq y x)) [
      | inl at ↦ let e = eqb-true y x at in or_left _ _ at ∙ sym (and_from _ _ (or_left _ _ at) (lt-ltb x k (omega arith)))
      | inr other ↦ ap (λ t. t || has (take c ys) x) other ∙ rest ∙ sym (ap (λ t. (t || has ys x) && nat_lt x k) other)
    ]

pub front_low : (b : ℕ) (xs : List ℕ) (c k x : ℕ) → IsRising b xs → slice_get xs c ≡ Some k → has (take c xs) x ≡ true → x < k
front_low b xs c k x r at h = ltb-true x k (and_parts (has xs x) (nat_lt x k) (sym (front_has b xs c k x r at) ∙ h)).1

turned_or : (a b c : Bool) → (a || (b || c)) ≡ (b || (a || c))
turned_or true true c = refl
turned_or true false c = refl
turned_or false true c = refl
turned_or false false c = refl

-- one more place adds the number there
pub front_next : (xs : List ℕ) (c k x : ℕ) → slice_get xs c ≡ Some k → has (take (suc c) xs) x ≡ (nat_eq k x || has (take c xs) x)
front_next [] c k x h = absurd (none-some k h)
front_next (y ∷ ys) zero k x h = ap (λ t. nat_eq y x || t) (none_taken ys x) ∙ ap (λ n. nat_eq n x || false) (same_Some y k h)
front_next (y ∷ ys) (suc c) k x h = ap (λ t. nat_eq y x || t) (front_next ys c k x h) ∙ turned_or (nat_eq y x) (nat_eq k x) (has (take c ys) x)

pub front_end : (xs : List ℕ) (c k : ℕ) → has xs k ≡ true → has (take c xs) k ≡ false → (q : ℕ) × (slice_get xs c ≡ Some q)
front_end [] c k h new = absurd (false≢true h)
front_end (y ∷ ys) zero k h new = (y, refl)
front_end (y ∷ ys) (suc c) k h new =
    let parts = or_parts (nat_eq y k) (has (take c ys) k) new in
    front_end ys c k (sym (ap (λ t. t || has ys k) parts.0) ∙ h) parts.1

-- a number that is not in the front, with no smaller one next, is next
pub next_is : (b : ℕ) (xs : List ℕ) (c k : ℕ) → IsRising b xs → has xs k ≡ true → has (take c xs) k ≡ false → ((q : ℕ) → slice_get xs c ≡ Some q → q < k → ⊥) → slice_get xs c ≡ Some k
next_is b xs c k r h new least =
    let found = front_end xs c k h new in
    elim (cases_order found.0 k) [
      | inl same ↦ found.1 ∙ ap (λ n. Some n) same
      | inr apart ↦ elim apart [
        | inl less ↦ absurd (least found.0 found.1 less)
        | inr more ↦ absurd (both_ways _ new (front_has b xs c found.0 k r found.1 ∙ and_from _ _ h (lt-ltb k found.0 more)))
      ]
    ]

pub rising_filter : (p : ℕ → Bool) (b a n : ℕ) → b ≤ a → IsRising b (filter p (range_with_len a n))
rising_filter p b a zero low = tt
rising_filter p b a (suc n) low =
    elim (p a) as (λ t. IsRising b (cond t (a ∷ filter p (range_with_len (a + 1) n)) (filter p (range_with_len (a + 1) n)))) [
      | true ↦ (low, rising_filter p (suc a) (a + 1) n (omega arith))
      | false ↦ rising_filter p b (a + 1) n (omega arith)
    ]
