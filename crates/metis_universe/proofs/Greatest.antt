-- The greatest demand is 16 at most, and no demand is greater. It is 1 in version 1, and where it is more some pair demands so much.
use Rattle.std.proofs.Common.{◌≡◌, ℕ, zero, suc, ◌+◌, ◌-◌, ◌<◌, ◌≤◌, true, false, cond, List, [], ◌∷◌, length, fold, max, refl, sym, ◌∙◌, inl, inr, arith, nat_eq}
use Rattle.std.specs.Prelude.{◌⊎◌}
use Rattle.std.specs.List.{All, AllByRecursion, position_or_len, slice_index_or}
use Rattle.std.specs.List.Sorted.{IsStrictlyIncreasing}
use Rattle.std.proofs.Math.Nat.{le-max_left, le-max_right, max-le}
use Rattle.std.proofs.lemmas.Bool.{cases_lt, eq-eqb, ne_eqb}
use Rattle.std.proofs.lemmas.List.Elements.{All-weaker, recursion_from_All}
use Rattle.std.proofs.lemmas.List.Folds.{list_any_at}
use Rattle.std.proofs.lemmas.List.Kept.{AllPairs-from_increasing}
use Rattle.std.proofs.lemmas.List.Sums.{position_or_len_is}
use Rattle.metis_universe.specs.Terms.{IsGreatestMet, IsUniverse, Pair, Universe, demand_in, demand_of, further_of, greatest_demand, has, no_pair, required_of, requires}
use Rattle.metis_universe.proofs.Demands.{demand_one}

max_low : (a b n : ℕ) → a < n → b < n → max a b < n
max_low a b n x y = let within : max a b ≤ n - 1 = max-le (omega arith) (omega arith) in omega arith

most_low : (xs : List ℕ) (a n : ℕ) → a < n → AllByRecursion (λ x. x < n) xs → fold max a xs < n
most_low [] a n low all = low
most_low (x ∷ xs) a n low all = most_low xs (max a x) n (max_low a x n low all.0) all.1

pub most_from : (xs : List ℕ) (a : ℕ) → a ≤ fold max a xs
most_from [] a = omega arith
most_from (x ∷ xs) a = let rest = most_from xs (max a x) in omega (arith, rest, le-max_left a x)

most_of : (xs : List ℕ) (a k : ℕ) → slice_index_or xs k 0 ≤ fold max a xs
most_of [] a zero = omega arith
most_of [] a (suc k) = omega arith
most_of (x ∷ xs) a zero = let rest = most_from xs (max a x) in omega (arith, rest, le-max_right a x)
most_of (x ∷ xs) a (suc k) = most_of xs (max a x) k

abbrev pub most_in : ℕ → List Pair → ℕ
most_in a pairs = fold (λ most (p : Pair). fold max most p.further) a pairs

in_low : (pairs : List Pair) (a n : ℕ) → a < n → ((p : ℕ) → p < length pairs → All (λ x. x < n) (slice_index_or pairs p no_pair).further) → most_in a pairs < n
in_low [] a n low all = low
in_low (x ∷ pairs) a n low all =
    in_low pairs (fold max a x.further) n (most_low x.further a n low (recursion_from_All (λ x. x < n) x.further (all 0 (omega arith)))) (λ p h. all (suc p) (omega arith))

in_from : (pairs : List Pair) (a : ℕ) → a ≤ most_in a pairs
in_from [] a = omega arith
in_from (x ∷ pairs) a = let rest = in_from pairs (fold max a x.further) in omega (arith, rest, most_from x.further a)

in_each : (pairs : List Pair) (a p k : ℕ) → slice_index_or (slice_index_or pairs p no_pair).further k 0 ≤ most_in a pairs
in_each [] a zero zero = omega arith
in_each [] a zero (suc k) = omega arith
in_each [] a (suc p) zero = omega arith
in_each [] a (suc p) (suc k) = omega arith
in_each (x ∷ pairs) a zero k = let rest = in_from pairs (fold max a x.further) in omega (arith, rest, most_of x.further a k)
in_each (x ∷ pairs) a (suc p) k = in_each pairs (fold max a x.further) p k

pub further_low : (u : Universe) → IsUniverse u → most_in 0 u.pairs < 16
further_low u k = in_low u.pairs 0 16 (omega arith) (λ p h. (k.demands p h).1)

pub demand_least : (u : Universe) (p r : ℕ) → demand_of u p r ≤ greatest_demand u
demand_least u p r =
    let more : ℕ = slice_index_or (further_of u p) (position_or_len (λ s. nat_eq s r) (required_of u p)) 0 in
    let least : more ≤ most_in 0 u.pairs = in_each u.pairs 0 p (position_or_len (λ s. nat_eq s r) (required_of u p)) in
    elim (has (required_of u p) r) as (λ b. cond b (1 + more) 0 ≤ greatest_demand u) [
      | true ↦ omega (arith, least)
      | false ↦ omega arith
    ]

pub greatest_low : (u : Universe) → IsUniverse u → greatest_demand u ≤ 16
greatest_low u k = omega (arith, further_low u k)

-- ---- version 1

pub greatest_one : (u : Universe) → IsUniverse u → u.version ≡ 1 → greatest_demand u ≡ 1
greatest_one u k version =
    let none : most_in 0 u.pairs < 1 = in_low u.pairs 0 1 (omega arith) (λ p h. All-weaker (λ n. n ≡ 0) (λ n. n < 1) (λ n e. omega arith) (further_of u p) (k.single version p h)) in
    omega (arith, none)

-- ---- where it is met

max_either : (a b : ℕ) → (max a b ≡ a) ⊎ (max a b ≡ b)
max_either a b = elim (cases_lt a b) [
  | inl less ↦ inr (let low : max a b ≤ b = max-le (omega arith) (omega arith) in omega (arith, low, le-max_right a b))
  | inr past ↦ inl (let low : max a b ≤ a = max-le (omega arith) (omega arith) in omega (arith, low, le-max_left a b))
]

-- the greatest is the number begun with, or stands in the list
pub most_met : (xs : List ℕ) (a : ℕ) → (fold max a xs ≡ a) ⊎ ((k : ℕ) × (k < length xs) × (slice_index_or xs k 0 ≡ fold max a xs))
most_met [] a = inl refl
most_met (x ∷ xs) a = elim (most_met xs (max a x)) [
  | inl same ↦ elim (max_either a x) [
    | inl old ↦ inl (same ∙ old)
    | inr new ↦ inr (zero, omega arith, sym (same ∙ new))
  ]
  | inr there ↦ inr (suc there.0, omega (arith, there.1), there.2)
]

-- the place of a number among those of a pair
record IsMost (pairs : List Pair) (n : ℕ) : Type 0 where
  pair : ℕ
  place : ℕ
  low : pair < length pairs
  within : place < length (slice_index_or pairs pair no_pair).further
  is : slice_index_or (slice_index_or pairs pair no_pair).further place 0 ≡ n

in_met : (pairs : List Pair) (a : ℕ) → (most_in a pairs ≡ a) ⊎ IsMost pairs (most_in a pairs)
in_met [] a = inl refl
in_met (x ∷ pairs) a = elim (in_met pairs (fold max a x.further)) [
  | inl same ↦ elim (most_met x.further a) [
    | inl old ↦ inl (same ∙ old)
    | inr here ↦ inr (record { pair = zero; place = here.0; low = omega arith; within = here.1; is = here.2 ∙ sym same })
  ]
  | inr m ↦ inr (record { pair = suc m.pair; place = m.place; low = omega (arith, m.low); within = m.within; is = m.is })
]

-- at its place among the ascending ports a port's demand is one more than what stands there
demand_at : (x : Pair) → IsStrictlyIncreasing x.required → (k : ℕ) → k < length x.required →
    (has x.required (slice_index_or x.required k 0) ≡ true) × (demand_in x (slice_index_or x.required k 0) ≡ 1 + slice_index_or x.further k 0)
demand_at x up k low =
    let r : ℕ = slice_index_or x.required k 0 in
    let here : has x.required r ≡ true = list_any_at (λ s. nat_eq s r) x.required k 0 low (eq-eqb r r refl) in
    let place : position_or_len (λ s. nat_eq s r) x.required ≡ k = position_or_len_is (λ s. nat_eq s r) x.required k 0 (omega arith)
    (λ j before. ne_eqb (slice_index_or x.required j 0) r (λ same. let less = AllPairs-from_increasing x.required up j k 0 before low in omega arith))
    (λ _. eq-eqb r r refl) in
    (here, λ i. cond (here i) (1 + slice_index_or x.further (place i) 0) 0)

pub greatest_met : (u : Universe) → IsUniverse u → (greatest_demand u ≡ 1) ⊎ IsGreatestMet u
greatest_met u k = elim (in_met u.pairs 0) [
  | inl none ↦ inl (omega (arith, none))
  | inr m ↦
      let at = demand_at (slice_index_or u.pairs m.pair no_pair) (k.required m.pair m.low).0 m.place (omega (arith, m.within, (k.demands m.pair m.low).0)) in
      inr (record { pair = m.pair; port = slice_index_or (required_of u m.pair) m.place 0; required = at.0; met = omega (arith, at.1, m.is) })
]

-- where some port is required it is always met
pub greatest_required : (u : Universe) (p r : ℕ) → IsUniverse u → requires u p r ≡ true → IsGreatestMet u
greatest_required u p r k needs = elim (greatest_met u k) [
  | inl one ↦ record { pair = p; port = r; required = needs; met = omega (arith, one, demand_least u p r, demand_one u p r needs) }
  | inr met ↦ met
]
