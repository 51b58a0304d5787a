-- The pairs of a type of the tables, and the limits.
use Rattle.std.proofs.Common.{◌≡◌, ℕ, suc, zero, ◌+◌, ◌*◌, ◌/◌, ◌%◌, ◌<◌, ◌≤◌, true, false, cond, nat_eq, List, [], ◌∷◌, ◌++◌, length, sum_by, inl, inr, refl, ap, ap₂, sym, ◌∙◌, subst, append-nil, arith}
use Rattle.std.specs.List.{flat_map, filter, range_with_len, AllByRecursion}
use Rattle.std.proofs.lemmas.Bool.{cases_lt, eq-eqb}
use Rattle.std.proofs.lemmas.Bool.Decides.{nat_tests}
use Rattle.std.proofs.lemmas.List.Elements.{filter-append}
use Rattle.metis_universe.specs.Terms.{IsWithinLimits, Pair, demand_total, states_of_type}
use Rattle.metis_gen.specs.Terms.{left_pairs, pairs_at, right_pairs, tables}
use Rattle.metis_gen.proofs.Places.{types_counted, pairs_counted, ports_counted}

abbrev of : ℕ → List Pair → List Pair
of t ps = filter (λ p. nat_eq p.kind t) ps

all_of : (t x : ℕ) (ps : List Pair) → x ≡ t → AllByRecursion (λ p. p.kind ≡ x) ps → of t ps ≡ ps
all_of t x [] e h = refl
all_of t x (p ∷ ps) e h =
    let here : nat_eq p.kind t ≡ true = eq-eqb p.kind t (h.0 ∙ e) in
    ap (λ b. cond b (p ∷ of t ps) (of t ps)) here ∙ ap (λ l. p ∷ l) (all_of t x ps e h.1)

none_of : (t x : ℕ) (ps : List Pair) → (x ≡ t → ⊥) → AllByRecursion (λ p. p.kind ≡ x) ps → of t ps ≡ []
none_of t x [] e h = refl
none_of t x (p ∷ ps) e h =
    let kind : p.kind ≡ x = h.0 in
    let apart : p.kind ≡ t → ⊥ = λ k. e (sym kind ∙ k) in
    let here : nat_eq p.kind t ≡ false = grind (arith, nat_tests) in
    ap (λ b. cond b (p ∷ of t ps) (of t ps)) here ∙ none_of t x ps e h.1

left_kinds : (i : ℕ) → AllByRecursion (λ p. p.kind ≡ 2 * i) (left_pairs i)
left_kinds i = (refl, (refl, (refl, (refl, tt))))

right_kinds : (i : ℕ) → AllByRecursion (λ p. p.kind ≡ 2 * i + 1) (right_pairs i)
right_kinds i = (refl, (refl, (refl, (refl, tt))))

place_parts : (t i : ℕ) (ls rs : List Pair) → of t (left_pairs i) ≡ ls → of t (right_pairs i) ≡ rs → of t (pairs_at i) ≡ ls ++ rs
place_parts t i ls rs l r = filter-append (λ (p : Pair). nat_eq p.kind t) (left_pairs i) (right_pairs i) ∙ ap₂ (λ a b. a ++ b) l r

-- a type of other places
other_place : (t i : ℕ) → (2 * i ≡ t → ⊥) → (2 * i + 1 ≡ t → ⊥) → of t (pairs_at i) ≡ []
other_place t i l r = place_parts t i [] [] (none_of t (2 * i) (left_pairs i) l (left_kinds i)) (none_of t (2 * i + 1) (right_pairs i) r (right_kinds i))

place_left : (i : ℕ) → of (2 * i) (pairs_at i) ≡ left_pairs i
place_left i =
    let apart : 2 * i + 1 ≡ 2 * i → ⊥ = λ e. omega arith in
    place_parts (2 * i) i (left_pairs i) [] (all_of (2 * i) (2 * i) (left_pairs i) refl (left_kinds i)) (none_of (2 * i) (2 * i + 1) (right_pairs i) apart (right_kinds i))

place_right : (i : ℕ) → of (2 * i + 1) (pairs_at i) ≡ right_pairs i
place_right i =
    let apart : 2 * i ≡ 2 * i + 1 → ⊥ = λ e. omega arith in
    place_parts (2 * i + 1) i [] (right_pairs i) (none_of (2 * i + 1) (2 * i) (left_pairs i) apart (left_kinds i)) (all_of (2 * i + 1) (2 * i + 1) (right_pairs i) refl (right_kinds i))

abbrev from_place : ℕ → ℕ → List Pair
from_place a n = flat_map pairs_at (range_with_len a n)

-- no place from a on has a type below 2 a
later_places : (t a n : ℕ) → t < 2 * a → of t (from_place a n) ≡ []
later_places t a zero l = refl
later_places t a (suc n) l =
    filter-append (λ (p : Pair). nat_eq p.kind t) (pairs_at a) (from_place (a + 1) n)
    ∙ ap₂ (λ x y. x ++ y) (other_place t a (λ e. omega arith) (λ e. omega arith)) (later_places t (a + 1) n (omega arith))

-- no place before n has a type from 2 n on
earlier_places : (t a n : ℕ) → 2 * (a + n) ≤ t → of t (from_place a n) ≡ []
earlier_places t a zero l = refl
earlier_places t a (suc n) l =
    filter-append (λ (p : Pair). nat_eq p.kind t) (pairs_at a) (from_place (a + 1) n)
    ∙ ap₂ (λ x y. x ++ y) (other_place t a (λ e. omega arith) (λ e. omega arith)) (earlier_places t (a + 1) n (omega arith))

-- the pairs of a type are those that its place has of it
at_place : (t i a n : ℕ) (own : List Pair) → 2 * i ≤ t → t < 2 * i + 2 → of t (pairs_at i) ≡ own → a ≤ i → i < a + n → of t (from_place a n) ≡ own
at_place t i a zero own lo hi e la li = absurd (omega arith)
at_place t i a (suc n) own lo hi e la li =
    filter-append (λ (p : Pair). nat_eq p.kind t) (pairs_at a) (from_place (a + 1) n)
    ∙ elim (cases_lt a i) [
      | inl less ↦ ap₂ (λ x y. x ++ y) (other_place t a (λ k. omega arith) (λ k. omega arith)) (at_place t i (a + 1) n own lo hi e (omega arith) (omega arith))
      | inr more ↦
          let same : a ≡ i = omega arith in
          ap₂ (λ x y. x ++ y) (ap (λ j. of t (pairs_at j)) same ∙ e) (later_places t (a + 1) n (omega arith)) ∙ append-nil own
    ]

pub left_of_type : (n i : ℕ) → i < n → states_of_type (tables n) (2 * i) ≡ left_pairs i
unfolding tables
left_of_type n i l = at_place (2 * i) i 0 n (left_pairs i) (omega arith) (omega arith) (place_left i) (omega arith) (omega arith)

pub right_of_type : (n i : ℕ) → i < n → states_of_type (tables n) (2 * i + 1) ≡ right_pairs i
unfolding tables
right_of_type n i l = at_place (2 * i + 1) i 0 n (right_pairs i) (omega arith) (omega arith) (place_right i) (omega arith) (omega arith)

none_of_type : (n t : ℕ) → 2 * n ≤ t → states_of_type (tables n) t ≡ []
unfolding tables
none_of_type n t l = earlier_places t 0 n (omega arith)

-- ---- limits

-- a type's pairs are four, or none where there is no such type, and they require few ports
abbrev Few : List Pair → Type 0
Few ps = (length ps ≤ 4) × (sum_by demand_total ps ≤ 2)

left_few : (i : ℕ) → Few (left_pairs i)
left_few zero = (omega arith, omega arith)
left_few (suc h) = (omega arith, omega arith)

right_few : (i : ℕ) → Few (right_pairs i)
right_few i = (omega arith, omega arith)

of_side : (n i k : ℕ) → i < n → k < 2 → Few (states_of_type (tables n) (2 * i + k))
of_side n i zero li lk =
    let here : 2 * i ≡ 2 * i + 0 = omega arith in
    subst (λ t. Few (states_of_type (tables n) t)) here (subst Few (sym (left_of_type n i li)) (left_few i))
of_side n i (suc zero) li lk = subst Few (sym (right_of_type n i li)) (right_few i)
of_side n i (suc (suc k)) li lk = absurd (omega arith)

few_of_type : (n t : ℕ) → Few (states_of_type (tables n) t)
few_of_type n t = elim (cases_lt t (2 * n)) [
  | inl less ↦
      let is : 2 * (t / 2) + t % 2 ≡ t = omega arith in
      subst (λ s. Few (states_of_type (tables n) s)) is (of_side n (t / 2) (t % 2) (omega arith) (omega arith))
  | inr more ↦ subst Few (sym (none_of_type n t more)) (omega arith, omega arith)
]

pub tables_limits : (n : ℕ) → n ≤ 250 → IsWithinLimits (tables n)
tables_limits n most = record {
  types = omega (arith, types_counted n);
  pairs = omega (arith, pairs_counted n);
  ports = omega (arith, ports_counted n);
  states = λ t. let few = few_of_type n t in omega (arith, few.0);
  required = λ t. let few = few_of_type n t in omega (arith, few.1);
}
