-- Rows of tables by event.
use Rattle.std.proofs.Common.{◌≡◌, ℕ, ◌+◌, ◌-◌, ◌<◌, ◌&&◌, ◌||◌, Bool, true, false, List, [], ◌∷◌, ◌++◌, length, get_or, nat_eq, nat_lt, replicate, refl, sym, ap, ◌∙◌, arith, inl, inr}
use Rattle.std.proofs.Math.Seq.{get_or-append_seam}
use Rattle.std.proofs.lemmas.Bool.{cases_eq, cases_lt, eq-eqb, le-ltb, lt-ltb, ne_eqb}
use Rattle.std.proofs.lemmas.List.{get_or-append_right, get_or-replicate, get_or_append_left, get_or_past, length-replicate, length_push}
use Rattle.metis_ids.specs.declared.events.Event.{Event}
use Rattle.metis_ids.specs.declared.events.Event.TheVariants.{At, End}
use Rattle.metis_rounds.specs.Terms.{Rows, has_row, row_at}

empty_row : {X : Type 0} (n j : ℕ) → get_or (replicate {A = List X} n []) j [] ≡ []
empty_row {X = X} n j = elim (cases_lt j n) [
  | inl low ↦ get_or-replicate n j [] [] low
  | inr past ↦ get_or_past (replicate {A = List X} n []) j [] (let size = length-replicate {A = List X} n [] in omega arith)
]

-- an added line has empty rows
pub added_rows : (t : Rows) (n : ℕ) (e : Event) → row_at (t ++ replicate n [] ∷ []) e ≡ row_at t e
added_rows t n (At l j) = elim (cases_lt l (length t)) [
  | inl low ↦ ap (λ (rows : List (List Event)). get_or rows j []) (get_or_append_left t (replicate n [] ∷ []) [] l low)
  | inr past ↦
      ap (λ (rows : List (List Event)). get_or rows j []) (get_or-append_right t (replicate n [] ∷ []) (length t) l [] refl past)
      ∙ last (l - length t)
      ∙ sym (ap (λ (rows : List (List Event)). get_or rows j []) (get_or_past t l [] past))
] where
  last : (k : ℕ) → get_or (get_or (replicate {A = List Event} n [] ∷ []) k []) j [] ≡ []
  last k = elim (cases_lt k 1) [
    | inl low ↦ ap (λ k. get_or (get_or (replicate {A = List Event} n [] ∷ []) k []) j []) (first low) ∙ empty_row n j
    | inr past ↦ ap (λ (rows : List (List Event)). get_or rows j []) (get_or_past (replicate {A = List Event} n [] ∷ []) k [] past)
  ] where
    first : k < 1 → k ≡ 0
    first low = omega arith
added_rows t n End = refl

-- it has as many
pub added_has : (t : Rows) (n l j : ℕ) → has_row (t ++ replicate n [] ∷ []) (At l j) ≡ (has_row t (At l j) || (nat_eq l (length t) && nat_lt j n))
added_has t n l j = ap (λ m. nat_lt l m && within (t ++ replicate n [] ∷ [])) (length_push t (replicate n [])) ∙ elim (cases_lt l (length t)) [
  | inl low ↦
      (λ i. lt-ltb l (length t + 1) (omega arith) i && nat_lt j (length (get_or_append_left t (replicate n [] ∷ []) [] l low i)))
      ∙ sym ((λ i. (lt-ltb l (length t) low i && within t) || (ne_eqb l (length t) (omega arith) i && nat_lt j n)) ∙ alone (within t))
  | inr past ↦ elim (cases_eq l (length t)) [
    | inl same ↦
        (λ i. lt-ltb l (length t + 1) (omega arith) i && nat_lt j (length (get_or (t ++ replicate n [] ∷ []) (same i) [])))
        ∙ ap (λ (row : List (List Event)). nat_lt j (length row)) (get_or-append_seam t (replicate n []) [] [])
        ∙ ap (nat_lt j) (length-replicate {A = List Event} n [])
        ∙ sym (λ i. (le-ltb l (length t) past i && within t) || (eq-eqb l (length t) same i && nat_lt j n))
    | inr other ↦
        ap (λ b. b && within (t ++ replicate n [] ∷ [])) (le-ltb l (length t + 1) (omega arith))
        ∙ sym (λ i. (le-ltb l (length t) past i && within t) || (ne_eqb l (length t) other i && nat_lt j n))
  ]
] where
  within : Rows → Bool
  within rows = nat_lt j (length (get_or rows l []))

  alone : (b : Bool) → (b || false) ≡ b
  alone true = refl
  alone false = refl
