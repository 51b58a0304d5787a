-- How many slots a pair has over a support, and the lines for the later ones.
use Rattle.std.proofs.Common.{◌≡◌, ℕ, ◌+◌, ◌-◌, ◌*◌, ◌<◌, ◌≤◌, true, cond, List, length, get_or, Some, None, refl, sym, ap, ◌∙◌, subst, arith, inl, inr}
use Rattle.std.specs.Prelude.{IsSome}
use Rattle.std.specs.List.{list_any}
use Rattle.std.specs.List.Sorted.{IsStrictlyIncreasing, IsStrictlySortedBy}
use Rattle.std.specs.Ordering.{nat_cmp}
use Rattle.std.proofs.lemmas.Bool.{and_from, and_parts, both_ways, cases_Bool, cases_lt, cond-false, cond-true, eq-eqb}
use Rattle.std.proofs.lemmas.List.{get_or_default, get_or_past}
use Rattle.std.proofs.lemmas.List.Kept.{AllPairs-from_increasing, IsStrictlyIncreasing-filter}
use Rattle.std.proofs.lemmas.Map.Keys.{sorted_from_strictly_increasing}
use Rattle.metis_universe.proofs.Demands.{demand_one}
use Rattle.metis_universe.proofs.Slots.{slots_enough as enough_by, slots_few as few_by, slots_none}
use Rattle.metis_universe.proofs.Rounds.{has-filter}
use Rattle.metis_universe.specs.Terms.{Universe, demand_of, greatest_demand, has, requires}
use Rattle.metis_support.proofs.Lists.{any_at, has_member, member, number_is}
use Rattle.metis_support.specs.Terms.{IsSupport, Support, is_number, is_selected, provider_at, provider_pairs}
use Rattle.metis_lines.proofs.Blocks.{blocks_few, copies, copies_in, has_block}
use Rattle.metis_lines.specs.Terms.{later_ends, lines_of, slots, slots_of}

pub providers_ascend : (s : Support) → IsStrictlyIncreasing s.selected.members → (i j : ℕ) → i < j → j < length (provider_pairs s) → get_or (provider_pairs s) i 0 < get_or (provider_pairs s) j 0
providers_ascend s ascends i j before low = AllPairs-from_increasing (provider_pairs s) (IsStrictlyIncreasing-filter (λ q. list_any (is_number q) s.providers) s.selected.members ascends) i j 0 before low

module _ (u : Universe) (s : Support) where
  -- a selected pair that takes a port from p finds a slot for each provider that it demands
  pub slots_enough : (p q r : ℕ) → is_selected s q ≡ true → requires u q r ≡ true → provider_at s r ≡ Some p → demand_of u q r ≤ slots_of u s p
  slots_enough p q r chosen required is = enough_by (provider_at s) u s.selected.members p q r chosen required is

  pub slots_few : (p : ℕ) → slots_of u s p ≤ greatest_demand u
  slots_few p = few_by (provider_at s) u s.selected.members p

  -- a pair from which no port is taken has none
  pub no_slots : (p : ℕ) → ((r : ℕ) → provider_at s r ≡ Some p → ⊥) → slots_of u s p ≡ 0
  no_slots p none = slots_none (provider_at s) u s.selected.members p (λ q r chosen required is. none r is)

  -- ---- the lines for later slots

  abbrev pub later : List ℕ
  later = later_ends u s

  pub sorted_providers : IsStrictlyIncreasing s.selected.members → IsStrictlySortedBy nat_cmp (provider_pairs s)
  sorted_providers ascends = sorted_from_strictly_increasing (provider_pairs s) (IsStrictlyIncreasing-filter (λ q. list_any (is_number q) s.providers) s.selected.members ascends)

  pub later_provides : (p : ℕ) → has later p ≡ true → has (provider_pairs s) p ≡ true
  later_provides p h = has_block (λ q. slots_of u s q - 1) (provider_pairs s) p h

  pub later_short : length later ≤ length (provider_pairs s) * (greatest_demand u - 1)
  later_short = blocks_few (λ q. slots_of u s q - 1) (greatest_demand u - 1) (provider_pairs s) (λ p. let few = slots_few p in omega (arith, few))

  -- who provides is taken from, so it has a slot at least
  taken_from : (p : ℕ) → has (provider_pairs s) p ≡ true → (r : ℕ) × (provider_at s r ≡ Some p)
  taken_from p h =
      let named = (and_parts (list_any (is_number p) s.providers) (is_selected s p) (sym (has-filter (λ q. list_any (is_number q) s.providers) p s.selected.members) ∙ h)).0 in
      let m = member (is_number p) s.providers named in
      (m.there.0, get_or_default s.providers m.there.0 None m.item m.there.1 ∙ m.there.2 ∙ number_is p m.item m.passes)

  module _ (k : IsSupport u s) where
    -- some selected pair requires each port that is taken from a pair
    pub needed_by : (r p : ℕ) → provider_at s r ≡ Some p → (q : ℕ) × (is_selected s q ≡ true) × (requires u q r ≡ true)
    needed_by r p is =
        let m = member (λ q. requires u q r) s.selected.members (k.no_other r (subst IsSome (sym is) refl)) in
        (m.item, has_member s.selected.members m.item m.there, m.passes)

    pub some_slot : (p : ℕ) → has (provider_pairs s) p ≡ true → 1 ≤ slots_of u s p
    some_slot p h =
        let from = taken_from p h in
        let by = needed_by from.0 p from.1 in
        omega (arith, slots_enough p by.0 from.0 by.1 by.2 from.1, demand_one u by.0 from.0 by.2)

    pub listed_from : (r p : ℕ) → provider_at s r ≡ Some p → has (provider_pairs s) p ≡ true
    listed_from r p is =
        let by = needed_by r p is in
        let h = k.provider by.0 r by.1 by.2 in
        let chosen : is_selected s p ≡ true = subst (λ q. is_selected s q ≡ true) (same_some h.pair p (sym h.is ∙ is)) h.below.selected in
        let low : r < length s.providers = elim (cases_lt r (length s.providers)) [
          | inl low ↦ low
          | inr past ↦ absurd (none_some p (sym (get_or_past s.providers r None past) ∙ is))
        ] in
        let named : list_any (is_number p) s.providers ≡ true = any_at (is_number p) s.providers r None low (ap (is_number p) is ∙ eq-eqb p p refl) in
        has-filter (λ q. list_any (is_number q) s.providers) p s.selected.members ∙ and_from _ _ named chosen where
          same_some : (a b : ℕ) → Some a ≡ Some b → a ≡ b
          same_some a b h = cc

          none_some : (p : ℕ) → None ≡ Some p → ⊥
          none_some p h = cc

    -- the reader of slots tells how many there are
    pub slots_are : (g d : List ℕ) (p : ℕ) → slots (lines_of u s g d) p ≡ slots_of u s p
    slots_are g d p = elim (cases_Bool (has (provider_pairs s) p)) [
      | inl there ↦
          let many = copies_in (λ q. slots_of u s q - 1) (provider_pairs s) p (sorted_providers k.ascends) ∙ ap (λ b. cond b (slots_of u s p - 1) 0) there in
          let some = some_slot p there in
          cond-true (has (provider_pairs s) p) (1 + copies later p) 0 there ∙ omega (arith, many, some)
      | inr other ↦
          cond-false (has (provider_pairs s) p) (1 + copies later p) 0 other ∙ sym (no_slots p (λ r is. both_ways (has (provider_pairs s) p) other (listed_from r p is)))
    ]
