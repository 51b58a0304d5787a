-- Pairs that stand type by type: those of earlier types, then those of a type, then the rest.
use Rattle.std.proofs.Common.{◌≡◌, ℕ, suc, ◌+◌, ◌-◌, ◌<◌, ◌≤◌, Bool, true, false, not, nat_lt, nat_eq, List, [], ◌∷◌, ◌++◌, length, get_or, refl, ap, sym, ◌∙◌, subst, inl, inr, append_assoc, length-append, arith}
use Rattle.std.specs.List.{filter, AllByRecursion}
use Rattle.std.specs.List.Sorted.{IsNonDecreasingBy}
use Rattle.std.proofs.lemmas.Bool.{cases_lt, cases_order, ltb-true, ltb-false, le-ltb, lt-ltb, not-true}
use Rattle.std.proofs.lemmas.Bool.Decides.{nat_tests}
use Rattle.std.proofs.lemmas.List.{get_or_append_left, get_or-append-add}
use Rattle.std.proofs.lemmas.List.Elements.{filter_passes, recursion_from_All}
use Rattle.metis_universe.specs.Terms.{Pair}

abbrev pub is_below : ℕ → Pair → Bool
is_below t p = nat_lt p.kind t

abbrev pub is_of : ℕ → Pair → Bool
is_of t p = nat_eq p.kind t

-- the pairs of the types before t
abbrev pub below : ℕ → List Pair → List Pair
below t xs = filter (is_below t) xs

abbrev pub of_type : ℕ → List Pair → List Pair
of_type t xs = filter (is_of t) xs

-- those of t and the types behind it
abbrev pub onwards : ℕ → List Pair → List Pair
onwards t xs = filter (λ p. not (is_below t p)) xs

abbrev pub AtLeast : ℕ → List Pair → Type 0
AtLeast t xs = AllByRecursion (λ p. t ≤ p.kind) xs

-- no pair has a type before that of an earlier pair
abbrev pub Stands : List Pair → Type 0
Stands [] = Unit {0}
Stands (x ∷ xs) = AtLeast x.kind xs × Stands xs

pub stands : (xs : List Pair) → IsNonDecreasingBy (λ (p : Pair). p.kind) xs → Stands xs
stands [] h = tt
stands (x ∷ xs) h = (
  recursion_from_All (λ (p : Pair). x.kind ≤ p.kind) xs (λ j d l. h 0 (suc j) d (omega arith) (omega arith)),
  stands xs (λ i j d le l. h (suc i) (suc j) d (omega arith) (omega arith)),
)

at_least_less : (s t : ℕ) (xs : List Pair) → s ≤ t → AtLeast t xs → AtLeast s xs
at_least_less s t [] le h = tt
at_least_less s t (x ∷ xs) le h = (omega (arith, h.0), at_least_less s t xs le h.1)

is_same : (k t : ℕ) → k ≡ t → nat_eq k t ≡ true
is_same k t e = grind (arith, nat_tests)

not_same : (k t : ℕ) → (k ≡ t → ⊥) → nat_eq k t ≡ false
not_same k t n = grind (arith, nat_tests)

pub none_below : (t : ℕ) (xs : List Pair) → AtLeast t xs → below t xs ≡ []
none_below t [] h = refl
none_below t (x ∷ xs) h = rw (le-ltb x.kind t h.0) (none_below t xs h.1)

pub all_below : (t : ℕ) (xs : List Pair) → AllByRecursion (λ p. p.kind < t) xs → below t xs ≡ xs
all_below t [] h = refl
all_below t (x ∷ xs) h = rw (lt-ltb x.kind t h.0) (ap (λ l. x ∷ l) (all_below t xs h.1))

-- the pairs of one more type
pub one_more : (t : ℕ) (xs : List Pair) → Stands xs → below t xs ++ of_type t xs ≡ below (t + 1) xs
one_more t [] h = refl
one_more t (x ∷ xs) h =
    let rest = one_more t xs h.1 in
    elim (cases_order x.kind t) [
      | inl same ↦
          let none = none_below t xs (subst (λ k. AtLeast k xs) same h.0) in
          rw (le-ltb x.kind t (omega arith), is_same x.kind t same, lt-ltb x.kind (t + 1) (omega arith))
          (ap (λ l. l ++ x ∷ of_type t xs) none ∙ ap (λ l. x ∷ l) (sym (ap (λ l. l ++ of_type t xs) none) ∙ rest))
      | inr apart ↦ elim apart [
        | inl less ↦ rw (lt-ltb x.kind t less, not_same x.kind t (λ e. omega arith), lt-ltb x.kind (t + 1) (omega arith)) (ap (λ l. x ∷ l) rest)
        | inr more ↦ rw (le-ltb x.kind t (omega arith), not_same x.kind t (λ e. omega arith), le-ltb x.kind (t + 1) (omega arith)) rest
      ]
    ]

pub parts : (t : ℕ) (xs : List Pair) → Stands xs → xs ≡ below t xs ++ onwards t xs
parts t [] h = refl
parts t (x ∷ xs) h =
    let rest = parts t xs h.1 in
    elim (cases_lt x.kind t) [
      | inl less ↦ rw (lt-ltb x.kind t less) (ap (λ l. x ∷ l) rest)
      | inr more ↦
          let none = none_below t xs (at_least_less t x.kind xs more h.0) in
          rw (le-ltb x.kind t more) (ap (λ l. x ∷ l) (rest ∙ ap (λ l. l ++ onwards t xs) none) ∙ sym (ap (λ l. l ++ x ∷ onwards t xs) none))
    ]

-- the pairs before type t, those of t, and those behind
pub three : (t : ℕ) (xs : List Pair) → Stands xs → xs ≡ below t xs ++ (of_type t xs ++ onwards (t + 1) xs)
three t xs h = parts (t + 1) xs h ∙ ap (λ l. l ++ onwards (t + 1) xs) (sym (one_more t xs h)) ∙ append_assoc (below t xs) (of_type t xs) (onwards (t + 1) xs)

pub first_more : (t : ℕ) (xs : List Pair) → Stands xs → length (below t xs) + length (of_type t xs) ≡ length (below (t + 1) xs)
first_more t xs h = sym (length-append (below t xs) (of_type t xs)) ∙ ap length (one_more t xs h)

pub first_within : (t : ℕ) (xs : List Pair) → Stands xs → length (below t xs) + length (of_type t xs) ≤ length xs
first_within t xs h = omega (arith, ap length (parts (t + 1) xs h), length-append (below (t + 1) xs) (onwards (t + 1) xs), first_more t xs h)

-- pair i of type t stands so far behind the first one
pub own_at : (t i : ℕ) (xs : List Pair) (d : Pair) → Stands xs → i < length (of_type t xs) → get_or xs (length (below t xs) + i) d ≡ get_or (of_type t xs) i d
own_at t i xs d h l =
    ap (λ (ys : List Pair). get_or ys (length (below t xs) + i) d) (three t xs h)
    ∙ get_or-append-add (below t xs) (of_type t xs ++ onwards (t + 1) xs) i d
    ∙ get_or_append_left (of_type t xs) (onwards (t + 1) xs) d i l

-- where a pair of type t stands among those
pub record Spot (xs : List Pair) (t q : ℕ) : Type 0 where
  pub i : ℕ
  pub within : i < length (of_type t xs)
  pub is : q ≡ length (below t xs) + i

too_early : (t q : ℕ) (xs : List Pair) (d : Pair) → Stands xs → q < length (below t xs) → (get_or xs q d).kind < t
too_early t q xs d h l =
    let same : get_or xs q d ≡ get_or (below t xs) q d = ap (λ (ys : List Pair). get_or ys q d) (parts t xs h) ∙ get_or_append_left (below t xs) (onwards t xs) d q l in
    let passes : nat_lt (get_or (below t xs) q d).kind t ≡ true = filter_passes (is_below t) xs q d l in
    subst (λ (p : Pair). p.kind < t) (sym same) (ltb-true (get_or (below t xs) q d).kind t passes)

too_late : (s j : ℕ) (xs : List Pair) (d : Pair) → Stands xs → length (below s xs) + j < length xs → s ≤ (get_or xs (length (below s xs) + j) d).kind
too_late s j xs d h l =
    let same : get_or xs (length (below s xs) + j) d ≡ get_or (onwards s xs) j d = ap (λ (ys : List Pair). get_or ys (length (below s xs) + j) d) (parts s xs h) ∙ get_or-append-add (below s xs) (onwards s xs) j d in
    let within : j < length (onwards s xs) = omega (arith, ap length (parts s xs h), length-append (below s xs) (onwards s xs)) in
    let passes : not (nat_lt (get_or (onwards s xs) j d).kind s) ≡ true = filter_passes (λ p. not (is_below s p)) xs j d within in
    subst (λ (p : Pair). s ≤ p.kind) (sym same) (ltb-false (get_or (onwards s xs) j d).kind s (not-true (nat_lt (get_or (onwards s xs) j d).kind s) passes))

pub spot : (t q : ℕ) (xs : List Pair) (d : Pair) → Stands xs → q < length xs → (get_or xs q d).kind ≡ t → Spot xs t q
spot t q xs d h l e =
    elim (cases_lt q (length (below t xs))) [
      | inl less ↦ absurd (omega (arith, too_early t q xs d h less))
      | inr more ↦ elim (cases_lt q (length (below (t + 1) xs))) [
        | inl in_type ↦ record { i = q - length (below t xs); within = omega (arith, first_more t xs h); is = omega arith }
        | inr past ↦
            let j = q - length (below (t + 1) xs) in
            let at : length (below (t + 1) xs) + j ≡ q = omega arith in
            let late : t + 1 ≤ (get_or xs q d).kind = subst (λ k. t + 1 ≤ (get_or xs k d).kind) at (too_late (t + 1) j xs d h (omega arith)) in
            absurd (omega arith)
      ]
    ]
