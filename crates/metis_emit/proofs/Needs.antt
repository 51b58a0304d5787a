-- The needs of a pair, port and slot, one for each provider that it demands. Different supplies for needs of a list are no more than the list has.
--     needs_in rs fs      the needs of these ports, of which each is required of so many providers besides one
use Rattle.std.proofs.Common.{◌≡◌, ℕ, zero, suc, ◌+◌, ◌<◌, ◌≤◌, Bool, true, false, cond, not, ◌&&◌, List, [], ◌∷◌, ◌++◌, length, refl, sym, ap, ◌∙◌, subst, arith, nat_eq, inl, inr, length-append}
use Rattle.std.proofs.lemmas.Bool.{and_from, and_parts, cases_lt, cond-true, eq-eqb, eqb-true, false_from_ne_true, false≢true, not_from_false, or_cases}
use Rattle.std.proofs.lemmas.List.{get_or_past}
use Rattle.std.proofs.lemmas.List.Sums.{count_by-le-length, length-filter, sum_by-cons}
use Rattle.std.specs.List.{filter, position_or_len, slice_index_or}
use Rattle.std.specs.Prelude.{sum}
use Rattle.metis_universe.specs.Terms.{Universe, demand_of, demand_total, further_of, has, pair_at, required_of, requires}
use Rattle.metis_lines.specs.Terms.{Supply}
use Rattle.metis_emit.proofs.Members.{In, filter_in}

-- ---- needs

-- a port and a slot
abbrev pub Need : Type 0
Need = ℕ × ℕ

-- n slots of the port, from slot a on
abbrev slots : ℕ → ℕ → ℕ → List Need
slots r a zero = []
slots r a (suc n) = (r, a) ∷ slots r (suc a) n

length-slots : (r a n : ℕ) → length (slots r a n) ≡ n
length-slots r a zero = refl
length-slots r a (suc n) = ap suc (length-slots r (suc a) n)

in_slots : (r a n k : ℕ) → a ≤ k → k < a + n → In (r, k) (slots r a n)
in_slots r a zero k low high = absurd (omega arith)
in_slots r a (suc n) k low high = elim (cases_lt a k) [
  | inl less ↦ inr (in_slots r (suc a) n k less (omega arith))
  | inr past ↦ let same : k ≡ a = omega arith in inl (ap (λ m. (r, m)) same)
]

abbrev pub needs_in : List ℕ → List ℕ → List Need
needs_in [] fs = []
needs_in (r ∷ rs) [] = slots r 1 1 ++ needs_in rs []
needs_in (r ∷ rs) (f ∷ fs) = slots r 1 (1 + f) ++ needs_in rs fs

needs_few : (rs fs : List ℕ) → length (needs_in rs fs) ≤ length rs + sum fs
needs_few [] fs = omega arith
needs_few (r ∷ rs) [] = omega (arith, length-append (slots r 1 1) (needs_in rs []), length-slots r 1 1, needs_few rs [])
needs_few (r ∷ rs) (f ∷ fs) = omega (arith, length-append (slots r 1 (1 + f)) (needs_in rs fs), length-slots r 1 (1 + f), needs_few rs fs, sum_by-cons (λ x. x) f fs)

in_front : {A : Type 0} (xs ys : List A) (x : A) → In x xs → In x (xs ++ ys)
in_front [] ys x there = absurd there
in_front (y ∷ xs) ys x there = elim there [ inl here ↦ inl here | inr later ↦ inr (in_front xs ys x later) ]

in_back : {A : Type 0} (xs ys : List A) (x : A) → In x ys → In x (xs ++ ys)
in_back [] ys x there = there
in_back (y ∷ xs) ys x there = inr (in_back xs ys x there)

abbrev place_of_port : List ℕ → ℕ → ℕ
place_of_port rs r = position_or_len (λ s. nat_eq s r) rs

none_past : (k : ℕ) → ◌≡◌ {A = ℕ} (slice_index_or [] k 0) 0
none_past k = get_or_past [] k 0 (omega arith)

one_more : (f k : ℕ) (fs : List ℕ) → slice_index_or (f ∷ fs) (1 + k) 0 ≡ slice_index_or fs k 0
one_more f k fs = let next : 1 + k ≡ suc k = omega arith in ap (λ m. slice_index_or (f ∷ fs) m 0) next

in_needs : (rs fs : List ℕ) (r k : ℕ) → has rs r ≡ true → 1 ≤ k → k ≤ 1 + slice_index_or fs (place_of_port rs r) 0 → In (r, k) (needs_in rs fs)
in_needs [] fs r k there low high = absurd (false≢true there)
in_needs (x ∷ rs) [] r k there low high =
    let only : k ≡ 1 = omega (arith, low, high, none_past (place_of_port (x ∷ rs) r)) in
    elim (or_cases (nat_eq x r) (has rs r) there) [
      | inl here ↦ inl (ap (λ y. (y, k)) (sym (eqb-true x r here)) ∙ ap (λ m. (x, m)) only)
      | inr later ↦ inr (in_needs rs [] r k later low (omega (arith, only)))
    ]
in_needs (x ∷ rs) (f ∷ fs) r k there low high =
    elim (nat_eq x r) as (λ b. nat_eq x r ≡ b → k ≤ 1 + slice_index_or (f ∷ fs) (cond (not b) (1 + place_of_port rs r) 0) 0 → In (r, k) (needs_in (x ∷ rs) (f ∷ fs))) [
      | true ↦ λ is most. in_front (slots x 1 (1 + f)) (needs_in rs fs) (r, k) (subst (λ y. In (r, k) (slots y 1 (1 + f))) (sym (eqb-true x r is)) (in_slots r 1 (1 + f) k low (omega (arith, most))))
      | false ↦ λ other most. in_back (slots x 1 (1 + f)) (needs_in rs fs) (r, k) (in_needs rs fs r k (later other) low (omega (arith, most, one_more f (place_of_port rs r) fs)))
    ] refl high where
      later : nat_eq x r ≡ false → has rs r ≡ true
      later other = elim (or_cases (nat_eq x r) (has rs r) there) [ inl here ↦ absurd (false≢true (sym other ∙ here)) | inr old ↦ old ]

abbrev pub needs_of : Universe → ℕ → List Need
needs_of u p = needs_in (required_of u p) (further_of u p)

pub needs_of_few : (u : Universe) (p : ℕ) → length (needs_of u p) ≤ demand_total (pair_at u p)
needs_of_few u p = needs_few (required_of u p) (further_of u p)

-- each slot up to what the pair demands of a port is a need
pub is_need : (u : Universe) (p r k : ℕ) → requires u p r ≡ true → 1 ≤ k → k ≤ demand_of u p r → In (r, k) (needs_of u p)
is_need u p r k needed low high =
    let place = place_of_port (required_of u p) r in
    let all : demand_of u p r ≡ 1 + slice_index_or (further_of u p) place 0 = cond-true (requires u p r) (1 + slice_index_or (further_of u p) place 0) 0 needed in
    in_needs (required_of u p) (further_of u p) r k needed low (omega (arith, high, all))

-- ---- supplies of different needs

-- no two are of one port and slot
abbrev pub AreOther : List Supply → Type 0
AreOther [] = Unit {0}
AreOther (s ∷ ss) = ((t : Supply) → In t ss → s.port ≡ t.port → s.slot ≡ t.slot → ⊥) × AreOther ss

shorter : {A : Type 0} (f : A → Bool) (xs : List A) (x : A) → In x xs → f x ≡ true → length (filter (λ y. not (f y)) xs) + 1 ≤ length xs
shorter f [] x there is = absurd there
shorter f (y ∷ xs) x there is =
    let rest = filter (λ z. not (f z)) xs in
    elim (f y) as (λ b. f y ≡ b → length (cond (not b) (y ∷ rest) rest) + 1 ≤ suc (length xs)) [
      | true ↦ λ _. omega (arith, length-filter (λ z. not (f z)) xs, count_by-le-length (λ z. not (f z)) xs)
      | false ↦ λ isnt. elim there [
        | inl here ↦ absurd (false≢true (sym isnt ∙ sym (ap f here) ∙ is))
        | inr later ↦ omega (arith, shorter f xs x later is)
      ]
    ] refl

pub few_other : (ss : List Supply) (needs : List Need) → AreOther ss → ((s : Supply) → In s ss → In (s.port, s.slot) needs) → length ss ≤ length needs
few_other [] needs other all = omega arith
few_other (s ∷ ss) needs other all =
    let same : Need → Bool = λ n. nat_eq n.0 s.port && nat_eq n.1 s.slot in
    let rest = few_other ss (filter (λ n. not (same n)) needs) other.1 (λ t there. filter_in (λ n. not (same n)) needs (t.port, t.slot) (all t (inr there))
    (not_from_false (same (t.port, t.slot)) (false_from_ne_true (same (t.port, t.slot)) (λ h. let parts = and_parts _ _ h in other.0 t there (sym (eqb-true t.port s.port parts.0)) (sym (eqb-true t.slot s.slot parts.1)))))) in
    omega (arith, rest, shorter same needs (s.port, s.slot) (all s (inl refl)) (and_from _ _ (eq-eqb s.port s.port refl) (eq-eqb s.slot s.slot refl)))
