-- The lists of what actions wait for ascend, and have numbers of earlier actions alone.
use Rattle.std.proofs.Common.{◌≡◌, ℕ, zero, suc, ◌+◌, ◌-◌, ◌<◌, ◌≤◌, List, [], length, get_or, map, Some, None, sym, subst, arith, inl, inr}
use Rattle.std.specs.List.{All, filter, range_with_len}
use Rattle.std.specs.List.Sorted.{IsStrictlyIncreasing}
use Rattle.std.specs.Option.{option_map_or}
use Rattle.std.proofs.lemmas.Bool.{cases_lt}
use Rattle.std.proofs.lemmas.List.{get_or_past, length-take}
use Rattle.std.proofs.lemmas.List.Elements.{All-filter, All-from_get_or, All-nil}
use Rattle.std.proofs.lemmas.List.FromFn.{get_or-map-range_with_len, get_or-range_with_len, length-map-range_with_len, length-range_with_len}
use Rattle.std.proofs.lemmas.List.Kept.{IsStrictlyIncreasing-filter}
use Rattle.metis_ids.specs.declared.actions.Action.{Action}
use Rattle.metis_universe.specs.Terms.{action_at, before, is_wait, numbers, waits}
use Rattle.metis_text.specs.Terms.{after_of}
use Rattle.metis_waits.specs.Terms.{waits_on_others}

range_increasing : (a n : ℕ) → IsStrictlyIncreasing (range_with_len a n)
range_increasing a n k low =
    let size = length-range_with_len a n in
    let here = get_or-range_with_len a n k 0 (omega (arith, size, low)) in
    let next = get_or-range_with_len a n (k + 1) 0 (omega (arith, size, low)) in
    omega (arith, here, next)

-- numbers of actions before number k
abbrev AreEarlier : ℕ → List ℕ → Type 0
AreEarlier k ms = All (λ m. (1 ≤ m) × (m < k)) ms

module _ (actions : List Action) where
  earlier_numbers : (k : ℕ) → AreEarlier k (numbers (before k actions))
  earlier_numbers k = All-from_get_or (λ m. (1 ≤ m) × (m < k)) (numbers (before k actions)) 0 (λ i low.
      let n = length (before k actions) in
      let size = length-range_with_len 1 n in
      let short = length-take (k - 1) actions in
      let at = get_or-range_with_len 1 n i 0 (omega (arith, size, low)) in
      (omega (arith, at), omega (arith, at, size, short, low)))

  -- what holds of each list of numbers before k that passes a test, and of the empty one, holds of the waits
  of_waits : (P : List ℕ → Type 0) (k : ℕ) → P [] → ((a : Action) → P (filter (is_wait (before k actions) a) (numbers (before k actions)))) → P (waits actions k)
  of_waits P k none some = elim (action_at actions k) as (λ o. P (option_map_or (λ a. filter (is_wait (before k actions) a) (numbers (before k actions))) o [])) [
    | None ↦ none
    | Some a ↦ some a
  ]

  others_increasing : (k : ℕ) → IsStrictlyIncreasing (waits_on_others actions k)
  others_increasing k = IsStrictlyIncreasing-filter _ (waits actions k) (of_waits IsStrictlyIncreasing k (λ i low. absurd (omega arith)) (λ a. IsStrictlyIncreasing-filter _ (numbers (before k actions)) (range_increasing 1 (length (before k actions)))))

  others_earlier : (k : ℕ) → AreEarlier k (waits_on_others actions k)
  others_earlier k = All-filter _ (λ m. (1 ≤ m) × (m < k)) (waits actions k) (of_waits (AreEarlier k) k (All-nil (λ m. (1 ≤ m) × (m < k))) (λ a. All-filter _ (λ m. (1 ≤ m) × (m < k)) (numbers (before k actions)) (earlier_numbers k)))

  abbrev pub others : List (List ℕ)
  others = map (waits_on_others actions) (numbers actions)

  pub length-others : length others ≡ length actions
  length-others = length-map-range_with_len (waits_on_others actions) 1 (length actions)

  at_number : (i : ℕ) → i < length actions → get_or others i [] ≡ waits_on_others actions (suc i)
  at_number i low = get_or-map-range_with_len (waits_on_others actions) 1 (length actions) i (suc i) [] low (omega arith)

  pub others_ascend : All IsStrictlyIncreasing others
  others_ascend = All-from_get_or IsStrictlyIncreasing others [] (λ i low. subst IsStrictlyIncreasing (sym (at_number i (omega (arith, length-others, low)))) (others_increasing (suc i)))

  pub others_are_earlier : (k : ℕ) → AreEarlier k (after_of others k)
  others_are_earlier zero = All-nil (λ m. (1 ≤ m) × (m < 0))
  others_are_earlier (suc i) = elim (cases_lt i (length actions)) [
    | inl low ↦ subst (AreEarlier (suc i)) (sym (at_number i low)) (others_earlier (suc i))
    | inr past ↦ subst (AreEarlier (suc i)) (sym (get_or_past others i [] (omega (arith, length-others)))) (All-nil (λ m. (1 ≤ m) × (m < suc i)))
  ]
