-- The first element that passes a test, and its place.
use Rattle.std.proofs.Common.{◌≡◌, ℕ, zero, suc, ◌+◌, ◌<◌, Bool, true, false, cond, List, [], ◌∷◌, Option, Some, None, length, get_or, position, refl, sym, ap, ◌∙◌, arith, nat_eq, inl, inr}
use Rattle.std.specs.Bool.{nat_lt}
use Rattle.std.specs.List.{All, find, position_or_len, range_with_len}
use Rattle.std.specs.Option.{option_or}
use Rattle.std.proofs.lemmas.Bool.{both_ways, eq-eqb, eqb-true, false≢true, lt-ltb, or_cases, or_left, or_right}
use Rattle.std.proofs.lemmas.List.Elements.{All-cons, All-nil}
use Rattle.std.proofs.lemmas.List.Folds.{find-append}
use Rattle.std.proofs.lemmas.List.Sums.{position_or_len_is}
use Rattle.std.proofs.lemmas.Option.{none-some}
use Rattle.metis_ids.specs.Terms.{has}
use Rattle.metis_ids.proofs.Lists.{has_here, in_range, range_push}

pub found : (t : ℕ → Bool) (xs : List ℕ) (x : ℕ) → find t xs ≡ Some x → (t x ≡ true) × (has xs x ≡ true)
found t [] x h = absurd (cc)
found t (y ∷ xs) x h =
    elim (t y) as (λ b. t y ≡ b → cond b (Some y) (find t xs) ≡ Some x → (t x ≡ true) × (has (y ∷ xs) x ≡ true)) [
      | true ↦ λ now e. let same : y ≡ x = cc in (sym (ap t same) ∙ now, or_left _ _ (eq-eqb y x same))
      | false ↦ λ _ e. let rest = found t xs x e in (rest.0, or_right _ _ rest.1)
    ] refl h

-- tests that agree find the same
pub find_agree : {X : Type 0} (s t : X → Bool) → ((x : X) → s x ≡ t x) → (xs : List X) → find s xs ≡ find t xs
find_agree s t same [] = refl
find_agree s t same (x ∷ xs) = let rest = find_agree s t same xs in λ i. cond (same x i) (Some x) (rest i)

-- ---- none passes

pub not_found : (t : ℕ → Bool) (xs : List ℕ) → find t xs ≡ None → (x : ℕ) → has xs x ≡ true → t x ≡ false
not_found t [] h x there = absurd (false≢true there)
not_found t (y ∷ xs) h x there =
    elim (t y) as (λ b. t y ≡ b → cond b (Some y) (find t xs) ≡ None → t x ≡ false) [
      | true ↦ λ now e. absurd (cc)
      | false ↦ λ now e. elim (or_cases (nat_eq y x) (has xs x) there) [
        | inl same ↦ sym (ap t (eqb-true y x same)) ∙ now
        | inr later ↦ not_found t xs e x later
      ]
    ] refl h

pub none_passes : {X : Type 0} (t : X → Bool) (xs : List X) → find t xs ≡ None → All (λ x. t x ≡ false) xs
none_passes t [] none = All-nil (λ x. t x ≡ false)
none_passes t (x ∷ xs) none =
    elim (t x) as (λ b. t x ≡ b → cond b (Some x) (find t xs) ≡ None → All (λ y. t y ≡ false) (x ∷ xs)) [
      | true ↦ λ _ e. absurd (none-some _ (sym e))
      | false ↦ λ fails e. All-cons (λ y. t y ≡ false) x xs fails (none_passes t xs e)
    ] refl none

pub none_found : (t : ℕ → Bool) (xs : List ℕ) (q : ℕ) → find t xs ≡ None → has xs q ≡ true → t q ≡ true → ⊥
none_found t xs q h there at = both_ways (t q) (not_found t xs h q there) at

pub find_none : (t : ℕ → Bool) (xs : List ℕ) → ((n : ℕ) → has xs n ≡ true → t n ≡ false) → find t xs ≡ None
find_none t [] none = refl
find_none t (x ∷ xs) none = ap (λ b. cond b (Some x) (find t xs)) (none x (has_here x xs)) ∙ find_none t xs (λ n there. none n (or_right _ _ there))

pub none_then_at : (t : ℕ → Bool) (x : ℕ) (xs : List ℕ) → find t (x ∷ xs) ≡ None → (t x ≡ false) × (find t xs ≡ None)
none_then_at t x xs h = elim (t x) as (λ b. t x ≡ b → cond b (Some x) (find t xs) ≡ None → (t x ≡ false) × (find t xs ≡ None)) [
  | true ↦ λ _ some. cc
  | false ↦ λ e rest. (e, rest)
] refl h

-- ---- in a range

pub found_in_range : (t : ℕ → Bool) (a i n : ℕ) → find t (range_with_len a i) ≡ None → i < n → t (a + i) ≡ true → find t (range_with_len a n) ≡ Some (a + i)
found_in_range t a i zero none less at = absurd (omega arith)
found_in_range t a zero (suc n) none less at =
    let same : a + 0 ≡ a = omega arith in
    ap (λ b. cond b (Some a) (find t (range_with_len (a + 1) n))) (ap t (sym same) ∙ at) ∙ ap (λ k. Some k) (sym same)
found_in_range t a (suc i) (suc n) none less at =
    let parts = none_then_at t a (range_with_len (a + 1) i) none in
    let same : a + suc i ≡ a + 1 + i = omega arith in
    ap (λ b. cond b (Some a) (find t (range_with_len (a + 1) n))) parts.0
    ∙ found_in_range t (a + 1) i n parts.1 (omega arith) (ap t (sym same) ∙ at) ∙ ap (λ k. Some k) (sym same)

pub none_in_range : (t : ℕ → Bool) (a i : ℕ) → find t (range_with_len a i) ≡ None → t (a + i) ≡ false → find t (range_with_len a (i + 1)) ≡ None
none_in_range t a i none fails =
    ap (find t) (range_push a i) ∙ find-append t (range_with_len a i) ((a + i) ∷ [])
    ∙ ap (λ o. option_or o (cond (t (a + i)) (Some (a + i)) None)) none ∙ ap (λ b. cond {A = Option ℕ} b (Some (a + i)) None) fails

pub found_within : (t : ℕ → Bool) (a n i : ℕ) → find t (range_with_len a n) ≡ Some i → i < a + n
found_within t a n i h = (in_range a n i (found t (range_with_len a n) i h).1).1

-- ---- the place

pub position_here : {A : Type 0} (p : A → Bool) (xs : List A) (i : ℕ) (d : A) → i < length xs → p (get_or xs i d) ≡ true → ((k : ℕ) → k < i → p (get_or xs k d) ≡ false) → position p xs ≡ Some i
position_here p xs i d within at before =
    let first : position_or_len p xs ≡ i = position_or_len_is p xs i d (omega arith) before (λ _. at) in
    (λ j. cond (nat_lt (first j) (length xs)) (Some (first j)) None) ∙ ap (λ b. cond b (Some i) None) (lt-ltb i (length xs) within)
