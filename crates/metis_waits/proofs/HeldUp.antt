-- What goes on where some actions never happen: the numbers that are not held up, in any order that keeps the waits.
use Rattle.std.proofs.Common.{◌≡◌, ◌⊎◌, ℕ, zero, suc, ◌+◌, ◌<◌, ◌≤◌, Bool, true, false, cond, not, ◌||◌, ◌&&◌, List, [], ◌∷◌, ◌++◌, refl, sym, ap, ◌∙◌, subst, arith, nat_eq, length, inl, inr}
use Rattle.std.specs.Prelude.{◌↔◌}
use Rattle.std.specs.List.{filter, list_any, range_with_len}
use Rattle.std.proofs.Math.Bool.{or-false}
use Rattle.std.proofs.lemmas.Bool.{and_from, and_parts, both_ways, cases_Bool, cases_eq, eq-eqb, eqb-true, false≢true, false_from_ne_true, not-true, or_cases, or_left, or_right}
use Rattle.std.proofs.lemmas.List.Folds.{list_any-append}
use Rattle.metis_ids.specs.declared.actions.Action.{Action}
use Rattle.metis_ids.proofs.Lists.{has-filter, has_range}
use Rattle.metis_universe.specs.Terms.{IsKept, IsKeptFrom, has, numbers, waits}
use Rattle.metis_universe.proofs.Correctness.{all_from_has}
use Rattle.metis_waits.specs.Terms.{HasAllOthers, NoneHeldUp, is_held_up, is_held_up_within}
use Rattle.metis_waits.proofs.GoesOn.{appended}
use Rattle.metis_waits.proofs.LastPlaces.{waits_earlier}

-- ---- ways

any_same : (f g : ℕ → Bool) (xs : List ℕ) → ((m : ℕ) → has xs m ≡ true → f m ≡ g m) → list_any f xs ≡ list_any g xs
any_same f g [] same = refl
any_same f g (x ∷ xs) same = λ i. same x (or_left (nat_eq x x) (has xs x) (eq-eqb x x refl)) i || any_same f g xs (λ m there. same m (or_right (nat_eq x m) (has xs m) there)) i

module _ (A : List Action) (failed : List ℕ) where
  abbrev within : ℕ → ℕ → Bool
  within n k = is_held_up_within n A failed k

  -- number 0 waits for none
  at_zero : (n : ℕ) → within n 0 ≡ has failed 0
  at_zero zero = refl
  at_zero (suc n) = or-false (has failed 0)

  -- a longer way than the number is no other
  same_way : (a b k : ℕ) → k ≤ a → k ≤ b → within a k ≡ within b k
  same_way zero b k low high = let none : 0 ≡ k = omega (arith, low) in subst (λ n. within zero n ≡ within b n) none (sym (at_zero b))
  same_way (suc a) zero k low high = let none : 0 ≡ k = omega (arith, high) in subst (λ n. within (suc a) n ≡ within zero n) none (at_zero (suc a))
  same_way (suc a) (suc b) k low high =
      ap (λ v. has failed k || v) (any_same (within a) (within b) (waits A k) (λ m w. let less = waits_earlier A k m w in same_way a b m (omega (arith, less.1, low)) (omega (arith, less.1, high))))

  -- by one wait
  one_way : (k : ℕ) → is_held_up A failed k ≡ (has failed k || list_any (is_held_up A failed) (waits A k))
  one_way k =
      same_way k (suc k) k (omega arith) (omega arith)
      ∙ ap (λ v. has failed k || v) (any_same (within k) (is_held_up A failed) (waits A k) (λ m w. let less = waits_earlier A k m w in same_way k m m (omega (arith, less.1)) (omega arith)))

  passing : (t : ℕ → Bool) (xs : List ℕ) → list_any t xs ≡ true → (m : ℕ) × (has xs m ≡ true) × (t m ≡ true)
  passing t [] h = absurd (false≢true h)
  passing t (x ∷ xs) h = elim (or_cases (t x) (list_any t xs) h) [
    | inl here ↦ (x, or_left (nat_eq x x) (has xs x) (eq-eqb x x refl), here)
    | inr later ↦ let rest = passing t xs later in (rest.0, or_right (nat_eq x rest.0) (has xs rest.0) rest.1, rest.2)
  ]

  passes : (t : ℕ → Bool) (xs : List ℕ) (m : ℕ) → has xs m ≡ true → t m ≡ true → list_any t xs ≡ true
  passes t [] m there h = absurd (false≢true there)
  passes t (x ∷ xs) m there h = elim (or_cases (nat_eq x m) (has xs m) there) [
    | inl now ↦ or_left (t x) (list_any t xs) (subst (λ n. t n ≡ true) (sym (eqb-true x m now)) h)
    | inr later ↦ or_right (t x) (list_any t xs) (passes t xs m later h)
  ]

  pub held_up_by : (k : ℕ) → is_held_up A failed k ≡ true ↔ ((has failed k ≡ true) ⊎ ((m : ℕ) × (has (waits A k) m ≡ true) × (is_held_up A failed m ≡ true)))
  held_up_by k = (
    λ h. elim (or_cases (has failed k) (list_any (is_held_up A failed) (waits A k)) (sym (one_way k) ∙ h)) [
      | inl own ↦ inl own
      | inr other ↦ inr (passing (is_held_up A failed) (waits A k) other)
    ],
    λ h. one_way k ∙ elim h [
      | inl own ↦ or_left (has failed k) _ own
      | inr (m, w, other) ↦ or_right (has failed k) _ (passes (is_held_up A failed) (waits A k) m w other)
    ],
  )

  -- what waits for nothing that is held up waits for what goes on
  pub goes_before : (k m : ℕ) → not (is_held_up A failed k) ≡ true → has (waits A k) m ≡ true → not (is_held_up A failed m) ≡ true
  goes_before k m goes w = ap not (false_from_ne_true (is_held_up A failed m) (λ h. both_ways (is_held_up A failed k) (not-true (is_held_up A failed k) goes) ((held_up_by k).1 (inr (m, w, h)))))

-- ---- any numbers whose waits are among them go on, in their own order

module _ (A : List Action) (goes : ℕ → Bool) (before : (k m : ℕ) → goes k ≡ true → has (waits A k) m ≡ true → goes m ≡ true) where
  abbrev is_next : List ℕ → ℕ → Bool
  is_next ks k = goes k && not (has ks k)

  abbrev pub others : List ℕ → List ℕ
  others ks = filter (is_next ks) (numbers A)

  go_on : (ks done : List ℕ) (a n : ℕ) → 1 ≤ a → a + n ≡ 1 + length A → ((m : ℕ) → has ks m ≡ true → has done m ≡ true)
      → ((m : ℕ) → 1 ≤ m → m < a → goes m ≡ true → has done m ≡ true) → ((m : ℕ) → has done m ≡ true → has ks m ≡ false → m < a)
      → IsKeptFrom A done (filter (is_next ks) (range_with_len a n))
  go_on ks done a zero one total held all only = tt
  go_on ks done a (suc n) one total held all only =
      elim (is_next ks a) as (λ b. is_next ks a ≡ b → IsKeptFrom A done (cond b (a ∷ filter (is_next ks) (range_with_len (a + 1) n)) (filter (is_next ks) (range_with_len (a + 1) n)))) [
        | false ↦ λ none. go_on ks done (a + 1) n (omega arith) (omega arith) held
            (λ m low less go. elim (cases_eq a m) [
              | inl same ↦ subst (λ x. has done x ≡ true) same (held a (stood (goes a) (has ks a) (subst (λ x. goes x ≡ true) (sym same) go) none))
              | inr other ↦ all m low (omega arith) go
            ])
            (λ m there out. let less = only m there out in omega arith)
        | true ↦ λ next.
            let parts = and_parts (goes a) (not (has ks a)) next in
            let out = not-true (has ks a) parts.1 in (
              has_range 1 (length A) a one (omega arith),
              false_from_ne_true _ (λ there. let less = only a there out in absurd (omega arith)),
              all_from_has (has done) (waits A a) (λ m w. let earlier = waits_earlier A a m w in all m earlier.0 earlier.1 (before a m parts.0 w)),
              go_on ks (a ∷ done) (a + 1) n (omega arith) (omega arith)
                  (λ m there. or_right (nat_eq a m) (has done m) (held m there))
                  (λ m low less go. elim (cases_eq a m) [ inl same ↦ or_left (nat_eq a m) (has done m) (eq-eqb a m same) | inr other ↦ or_right (nat_eq a m) (has done m) (all m low (omega arith) go) ])
                  (λ m there gone. elim (or_cases (nat_eq a m) (has done m) there) [
                    | inl now ↦ let same = eqb-true a m now in omega arith
                    | inr early ↦ let less = only m early gone in omega arith
                  ]),
            )
      ] refl where
        stood : (g h : Bool) → g ≡ true → (g && not h) ≡ false → h ≡ true
        stood true true go none = refl
        stood true false go none = absurd (false≢true (sym none))
        stood false h go none = absurd (false≢true go)

  pub kept_others : (ks : List ℕ) → IsKept A ks → IsKept A (ks ++ others ks)
  kept_others ks kept = appended A [] ks (others ks) kept (λ front same.
      go_on ks front 1 (length A) (omega arith) (omega arith)
      (λ m there. same m ∙ or_left (has ks m) false there)
      (λ m low less. absurd (omega arith))
      (λ m there out. absurd (false≢true (sym (ap (λ b. b || false) out) ∙ sym (same m) ∙ there))))

  pub other_goes : (ks : List ℕ) (k : ℕ) → has (others ks) k ≡ true → goes k ≡ true
  other_goes ks k there =
      let kept = (and_parts (is_next ks k) (has (numbers A) k) (sym (has-filter (is_next ks) k (numbers A)) ∙ there)).0 in
      (and_parts (goes k) (not (has ks k)) kept).0

  pub all_others : (ks : List ℕ) (k : ℕ) → has (numbers A) k ≡ true → goes k ≡ true → has (ks ++ others ks) k ≡ true
  all_others ks k there go =
      list_any-append (λ x. nat_eq x k) ks (others ks) ∙ elim (cases_Bool (has ks k)) [
        | inl stands ↦ or_left (has ks k) (has (others ks) k) stands
        | inr out ↦ or_right (has ks k) (has (others ks) k) (has-filter (is_next ks) k (numbers A) ∙ and_from (is_next ks k) (has (numbers A) k) (and_from (goes k) (not (has ks k)) go (ap not out)) there)
      ]

-- ---- what is not held up goes on

module _ (A : List Action) (failed ks : List ℕ) where
  abbrev pub goes : ℕ → Bool
  goes k = not (is_held_up A failed k)

  abbrev pub rest : List ℕ
  rest = others A goes (goes_before A failed) ks

  pub kept_rest : IsKept A ks → IsKept A (ks ++ rest)
  kept_rest kept = kept_others A goes (goes_before A failed) ks kept

  pub none_held_up : NoneHeldUp A failed ks → NoneHeldUp A failed (ks ++ rest)
  none_held_up none k there = elim (or_cases (has ks k) (has rest k) (sym (list_any-append (λ x. nat_eq x k) ks rest) ∙ there)) [
    | inl early ↦ none k early
    | inr later ↦ not-true (is_held_up A failed k) (other_goes A goes (goes_before A failed) ks k later)
  ]

  pub all_rest : HasAllOthers A failed (ks ++ rest)
  all_rest k there free = all_others A goes (goes_before A failed) ks k there (ap not free)
