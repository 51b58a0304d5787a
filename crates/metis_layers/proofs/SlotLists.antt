-- Lists of slots: for each port of a list some numbers. The slots that a pair needs and another does not are such a list.
use Rattle.std.proofs.Common.{◌≡◌, ℕ, zero, suc, ◌+◌, ◌-◌, ◌<◌, ◌≤◌, Bool, true, false, ◌&&◌, ◌||◌, List, [], ◌∷◌, ◌++◌, map, refl, sym, ap, ◌∙◌, arith, nat_eq, nat_cmp, inl, inr}
use Rattle.std.proofs.lemmas.Bool.{and_from, and_parts, cases_eq, cases_lt, eq-eqb, eqb-true, false_from_ne_true, false≢true, le-leb, leb-true, ne_eqb, or_cases}
use Rattle.std.proofs.lemmas.List.{get_or_past}
use Rattle.std.proofs.lemmas.List.Folds.{list_any-append}
use Rattle.std.proofs.lemmas.Map.Keys.{sorted_from_strictly_increasing}
use Rattle.std.specs.Cmp.{both_ways}
use Rattle.std.specs.List.{flat_map, range_with_len}
use Rattle.std.specs.List.Sorted.{IsStrictlyIncreasing, IsStrictlySortedBy}
use Rattle.metis_ids.proofs.Lists.{has_range, none_above}
use Rattle.metis_ids.proofs.Tests.{eq_comm}
use Rattle.metis_universe.proofs.Demands.{demand_none}
use Rattle.metis_universe.specs.Terms.{AreDifferent, IsUniverse, Universe, demand_of, has, no_pair, pair_count, required_of, requires}
use Rattle.metis_layers.proofs.Slots.{AreApart, between, has_slot, none_from_none, wants}
use Rattle.metis_layers.specs.Terms.{slots_above, slots_gained}
use Rattle.metis_universe.proofs.Different.{sorted_differ}

-- ---- numbers

-- what a range has
pub of_range : (n a q : ℕ) → has (range_with_len a n) q ≡ true → (a ≤ q) × (q < a + n)
of_range zero a q h = absurd (false≢true h)
of_range (suc n) a q h = elim (or_cases (nat_eq a q) (has (range_with_len (a + 1) n) q) h) [
  | inl now ↦ let same = eqb-true a q now in (omega arith, omega arith)
  | inr more ↦ let rest = of_range n (a + 1) q more in (omega arith, omega arith)
]

range_differs : (n a : ℕ) → AreDifferent (range_with_len a n)
range_differs zero a = tt
range_differs (suc n) a = (false_from_ne_true _ (λ again. past (of_range n (a + 1) a again).0), range_differs n (a + 1)) where
  past : a + 1 ≤ a → ⊥
  past h = omega arith

pub has_slots_above : (m n k : ℕ) → has (slots_above m n) k ≡ between m n k
has_slots_above m n k = both_ways _ _
    (λ h. let within = of_range (n - m) (m + 1) k h in and_from _ _ (le-leb (m + 1) k within.0) (le-leb k n (omega (arith, within.0, within.1))))
    (λ h. let parts = and_parts _ _ h in has_range (m + 1) (n - m) k (leb-true (m + 1) k parts.0) (omega (arith, leb-true (m + 1) k parts.0, leb-true k n parts.1)))

-- ---- for each port its numbers

abbrev pub slots_of : (ℕ → List ℕ) → List ℕ → List (ℕ × ℕ)
slots_of f rs = flat_map (λ r. map (λ k. (r, k)) (f r)) rs

has_of_port : (ks : List ℕ) (r s k : ℕ) → has_slot (map (λ j. (r, j)) ks) s k ≡ (nat_eq s r && has ks k)
has_of_port [] r s k = sym (and_never (nat_eq s r)) where
  and_never : (b : Bool) → (b && false) ≡ false
  and_never true = refl
  and_never false = refl
has_of_port (x ∷ ks) r s k = (λ i. (nat_eq s r && eq_comm k x i) || has_of_port ks r s k i) ∙ join (nat_eq s r) (nat_eq x k) (has ks k) where
  join : (a b c : Bool) → ((a && b) || (a && c)) ≡ (a && (b || c))
  join true b c = refl
  join false b c = refl

pub has_slots_of : (f : ℕ → List ℕ) (rs : List ℕ) (s k : ℕ) → has_slot (slots_of f rs) s k ≡ (has rs s && has (f s) k)
has_slots_of f [] s k = refl
has_slots_of f (r ∷ rs) s k =
    list_any-append (λ x. nat_eq s x.0 && nat_eq k x.1) (map (λ j. (r, j)) (f r)) (slots_of f rs) ∙ (λ i. has_of_port (f r) r s k i || has_slots_of f rs s k i) ∙ elim (cases_eq s r) [
      | inl same ↦ (λ i. (eq-eqb s r same i && has (f (sym same i)) k) || (has rs s && has (f s) k)) ∙ absorbed (has rs s) (has (f s) k) ∙ ap (λ b. (b || has rs s) && has (f s) k) (sym (eq-eqb r s (sym same)))
      | inr other ↦ ap (λ b. (b && has (f r) k) || (has rs s && has (f s) k)) (ne_eqb s r other) ∙ ap (λ b. (b || has rs s) && has (f s) k) (sym (ne_eqb r s (λ e. other (sym e))))
    ] where
      absorbed : (b c : Bool) → ((true && c) || (b && c)) ≡ ((true || b) && c)
      absorbed true true = refl
      absorbed true false = refl
      absorbed false true = refl
      absorbed false false = refl

apart_append : (xs ys : List (ℕ × ℕ)) → AreApart xs → AreApart ys → ((r k : ℕ) → has_slot xs r k ≡ true → has_slot ys r k ≡ false) → AreApart (xs ++ ys)
apart_append [] ys one two across = two
apart_append (x ∷ xs) ys one two across = (
  list_any-append (λ s. nat_eq x.0 s.0 && nat_eq x.1 s.1) xs ys ∙ (λ i. one.0 i || across x.0 x.1 own i),
  apart_append xs ys one.1 two (λ r k h. across r k (more (nat_eq r x.0 && nat_eq k x.1) (has_slot xs r k) h)),
) where
  own : has_slot (x ∷ xs) x.0 x.1 ≡ true
  own = (λ i. (eq-eqb x.0 x.0 refl i && eq-eqb x.1 x.1 refl i) || has_slot xs x.0 x.1)

  more : (a b : Bool) → b ≡ true → (a || b) ≡ true
  more true b h = refl
  more false b h = h

port_apart : (ks : List ℕ) (r : ℕ) → AreDifferent ks → AreApart (map (λ k. (r, k)) ks)
port_apart [] r differ = tt
port_apart (x ∷ ks) r differ = (has_of_port ks r r x ∙ (λ i. eq-eqb r r refl i && differ.0 i), port_apart ks r differ.1)

slots_apart : (f : ℕ → List ℕ) (rs : List ℕ) → AreDifferent rs → ((r : ℕ) → AreDifferent (f r)) → AreApart (slots_of f rs)
slots_apart f [] differ each = tt
slots_apart f (r ∷ rs) differ each = apart_append (map (λ k. (r, k)) (f r)) (slots_of f rs) (port_apart (f r) r (each r)) (slots_apart f rs differ.1 each) (λ s k h.
    let same = eqb-true s r (and_parts (nat_eq s r) (has (f r) k) (sym (has_of_port (f r) r s k) ∙ h)).0 in
    has_slots_of f rs s k ∙ ap (λ b. b && has (f s) k) (ap (has rs) same ∙ differ.0))

-- ---- what a pair gains

module _ (u : Universe) where
  -- a slot of a port that is not required is not needed
  pub wants_required : (p r k : ℕ) → wants u p r k ≡ true → requires u p r ≡ true
  wants_required p r k h = by (requires u p r) refl where
    past : (n : ℕ) → n ≡ 0 → 1 ≤ k → k ≤ n → ⊥
    past n none first last = omega (arith, none)

    by : (b : Bool) → requires u p r ≡ b → requires u p r ≡ true
    by true is = is
    by false is = let parts = and_parts _ _ h in absurd (past (demand_of u p r) (demand_none u p r is) (leb-true 1 k parts.0) (leb-true k (demand_of u p r) parts.1))

  pub has_gained : (p q r k : ℕ) → has_slot (slots_gained u p q) r k ≡ between (demand_of u p r) (demand_of u q r) k
  has_gained p q r k = has_slots_of (λ s. slots_above (demand_of u p s) (demand_of u q s)) (required_of u q) r k ∙ by (requires u q r) refl where
    by : (b : Bool) → requires u q r ≡ b → (b && has (slots_above (demand_of u p r) (demand_of u q r)) k) ≡ between (demand_of u p r) (demand_of u q r) k
    by true is = has_slots_above (demand_of u p r) (demand_of u q r) k
    by false is = sym (ap (λ n. between (demand_of u p r) n k) (demand_none u q r is) ∙ none_from_none (demand_of u p r) k)

  nothing_past : (p : ℕ) → pair_count u ≤ p → required_of u p ≡ []
  nothing_past p past = ap (λ row. row.required) (get_or_past u.pairs p no_pair past)

  none_rises : (xs : List ℕ) → xs ≡ [] → IsStrictlyIncreasing xs
  none_rises [] is i h = absurd (omega arith)
  none_rises (x ∷ xs) is i h = cc

  -- the ports that a pair requires ascend, so that they differ
  pub required_differ : IsUniverse u → (p : ℕ) → AreDifferent (required_of u p)
  required_differ k p = sorted_differ (required_of u p) (sorted_from_strictly_increasing (required_of u p) (elim (cases_lt p (pair_count u)) [
    | inl low ↦ (k.required p low).0
    | inr past ↦ none_rises (required_of u p) (nothing_past p past)
  ]))

  pub gained_apart : IsUniverse u → (p q : ℕ) → AreApart (slots_gained u p q)
  gained_apart k p q = slots_apart (λ r. slots_above (demand_of u p r) (demand_of u q r)) (required_of u q) (required_differ k q) (λ r. range_differs (demand_of u q r - demand_of u p r) (demand_of u p r + 1))
