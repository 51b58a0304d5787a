-- Where the pairs of each type stand.
use Rattle.std.proofs.Common.{◌≡◌, ℕ, suc, zero, ◌+◌, ◌-◌, ◌<◌, ◌≤◌, List, [], ◌∷◌, ◌++◌, length, take, get_or, refl, ap, sym, ◌∙◌, subst, inl, inr, arith}
use Rattle.std.proofs.lemmas.Bool.{cases_lt}
use Rattle.std.proofs.lemmas.List.{append-nil, append_assoc, get_or_append_left, get_or-append-add, get_or-map, length-append, length-map, take-take}
use Rattle.std.proofs.lemmas.List.Sums.{sum_by-cons, sum_by_more_le, sum_by_more, sum_by-take-le}
use Rattle.metis_universe.specs.Terms.{Kind, Pair, StateRow, TypeRow, kind_from, kinds_from, pair_from, pairs_from, pairs_of_type, state_total}

abbrev pub no_state : StateRow
no_state = record { name = []; provide = []; require = []; next = [] }

abbrev pub no_row : TypeRow
no_row = record { name = []; initial = []; states = [] }

-- the states of type t, and the number of its first pair
abbrev pub row_at : List TypeRow → ℕ → TypeRow
row_at rows t = get_or rows t no_row

abbrev pub states_at : List TypeRow → ℕ → List StateRow
states_at rows t = (row_at rows t).states

abbrev pub first_of : List TypeRow → ℕ → ℕ
first_of rows t = state_total (take t rows)

pub state_total-cons : (row : TypeRow) (rows : List TypeRow) → state_total (row ∷ rows) ≡ length row.states + state_total rows
state_total-cons row rows = sum_by-cons (λ (row : TypeRow). length row.states) row rows

pub length-pairs_from : (ports : List (List ℕ)) (t f : ℕ) (rows : List TypeRow) → length (pairs_from ports t f rows) ≡ state_total rows
length-pairs_from ports t f [] = refl
length-pairs_from ports t f (row ∷ rows) =
    length-append (pairs_of_type ports t f row) (pairs_from ports (t + 1) (f + length row.states) rows)
    ∙ ap (λ n. n + length (pairs_from ports (t + 1) (f + length row.states) rows)) (length-map row.states (pair_from ports t f row))
    ∙ ap (λ n. length row.states + n) (length-pairs_from ports (t + 1) (f + length row.states) rows) ∙ sym (state_total-cons row rows)

pub length-kinds_from : (f : ℕ) (rows : List TypeRow) → length (kinds_from f rows) ≡ length rows
length-kinds_from f [] = refl
length-kinds_from f (row ∷ rows) = ap suc (length-kinds_from (f + length row.states) rows)

-- the type at t
pub get_or-kinds_from : (f : ℕ) (rows : List TypeRow) (t : ℕ) (e : Kind) → t < length rows → get_or (kinds_from f rows) t e ≡ kind_from (f + first_of rows t) (row_at rows t)
get_or-kinds_from f [] t e l = absurd (omega arith)
get_or-kinds_from f (row ∷ rows) zero e l = let z : f ≡ f + 0 = omega arith in ap (λ n. kind_from n row) z
get_or-kinds_from f (row ∷ rows) (suc t) e l =
    let z : f + length row.states + first_of rows t ≡ f + state_total (row ∷ take t rows) = omega (arith, state_total-cons row (take t rows)) in
    get_or-kinds_from (f + length row.states) rows t e (omega arith) ∙ ap (λ n. kind_from n (row_at rows t)) z

-- the pair of state i of the type at t
pub get_or-pairs_from : (ports : List (List ℕ)) (t0 f : ℕ) (rows : List TypeRow) (t i : ℕ) (e : Pair) → t < length rows → i < length (states_at rows t) →
    get_or (pairs_from ports t0 f rows) (first_of rows t + i) e ≡ pair_from ports (t0 + t) (f + first_of rows t) (row_at rows t) (get_or (states_at rows t) i no_state)
get_or-pairs_from ports t0 f [] t i e l m = absurd (omega arith)
get_or-pairs_from ports t0 f (row ∷ rows) zero i e l m =
    let z : 0 + i ≡ i = omega arith in
    let n : i < length (pairs_of_type ports t0 f row) = omega (arith, length-map row.states (pair_from ports t0 f row)) in
    let a : t0 ≡ t0 + 0 = omega arith in
    let b : f ≡ f + 0 = omega arith in
    ap (λ k. get_or (pairs_from ports t0 f (row ∷ rows)) k e) z
    ∙ get_or_append_left (pairs_of_type ports t0 f row) (pairs_from ports (t0 + 1) (f + length row.states) rows) e i n
    ∙ get_or-map (pair_from ports t0 f row) row.states i no_state e m
    ∙ (λ j. pair_from ports (a j) (b j) row (get_or row.states i no_state))
get_or-pairs_from ports t0 f (row ∷ rows) (suc t) i e l m =
    let rest = pairs_from ports (t0 + 1) (f + length row.states) rows in
    let z : state_total (row ∷ take t rows) + i ≡ length (pairs_of_type ports t0 f row) + (first_of rows t + i) =
    omega (arith, state_total-cons row (take t rows), length-map row.states (pair_from ports t0 f row)) in
    let a : t0 + 1 + t ≡ t0 + suc t = omega arith in
    let b : f + length row.states + first_of rows t ≡ f + state_total (row ∷ take t rows) = omega (arith, state_total-cons row (take t rows)) in
    ap (λ k. get_or (pairs_of_type ports t0 f row ++ rest) k e) z
    ∙ get_or-append-add (pairs_of_type ports t0 f row) rest (first_of rows t + i) e
    ∙ get_or-pairs_from ports (t0 + 1) (f + length row.states) rows t i e (omega arith) m
    ∙ (λ j. pair_from ports (a j) (b j) (row_at rows t) (get_or (states_at rows t) i no_state))

-- a pair's type, and the place of its state there
pub record Place (rows : List TypeRow) (p : ℕ) : Type 0 where
  pub t : ℕ
  pub i : ℕ
  pub within : t < length rows
  pub below : i < length (states_at rows t)
  pub is : p ≡ first_of rows t + i

pub place_of : (rows : List TypeRow) (p : ℕ) → p < state_total rows → Place rows p
place_of [] p l = absurd (omega arith)
place_of (row ∷ rows) p l =
    elim (cases_lt p (length row.states)) [
      | inl less ↦ record { t = 0; i = p; within = omega arith; below = less; is = omega arith }
      | inr more ↦
          let rest = place_of rows (p - length row.states) (omega (arith, state_total-cons row rows)) in
          record { t = suc rest.t; i = rest.i; within = omega arith; below = rest.below; is = omega (arith, state_total-cons row (take rest.t rows), rest.is) }
    ]

-- the pairs of a type stand before those of a later one
pub first_of-more : (rows : List TypeRow) (a b : ℕ) → a < b → a < length rows → first_of rows a + length (states_at rows a) ≤ first_of rows b
first_of-more rows a b l n =
    let s = λ (row : TypeRow). length row.states in
    let c : a + 1 ≤ b = omega arith in
    let e : first_of rows (a + 1) ≤ first_of rows b = subst (λ (xs : List TypeRow). state_total xs ≤ first_of rows b) (take-take (a + 1) b rows c) (sum_by-take-le s (take b rows) (a + 1)) in
    omega (arith, sum_by_more s rows a no_row n)

-- and all of them within the universe
pub first_of-within : (rows : List TypeRow) (t i : ℕ) → t < length rows → i < length (states_at rows t) → first_of rows t + i < state_total rows
first_of-within rows t i l m = omega (arith, sum_by_more_le (λ (row : TypeRow). length row.states) rows t no_row l)

-- ---- one more type

pub kinds_from-push : (f : ℕ) (rows : List TypeRow) (row : TypeRow) → kinds_from f (rows ++ row ∷ []) ≡ kinds_from f rows ++ kind_from (f + state_total rows) row ∷ []
kinds_from-push f [] row = let z : f ≡ f + 0 = omega arith in ap (λ n. kind_from n row ∷ []) z
kinds_from-push f (x ∷ rows) row =
    let z : f + length x.states + state_total rows ≡ f + state_total (x ∷ rows) = omega (arith, state_total-cons x rows) in
    ap (λ ks. kind_from f x ∷ ks) (kinds_from-push (f + length x.states) rows row ∙ ap (λ n. kinds_from (f + length x.states) rows ++ kind_from n row ∷ []) z)

pub pairs_from-push : (ports : List (List ℕ)) (t f : ℕ) (rows : List TypeRow) (row : TypeRow) →
    pairs_from ports t f (rows ++ row ∷ []) ≡ pairs_from ports t f rows ++ pairs_of_type ports (t + length rows) (f + state_total rows) row
pairs_from-push ports t f [] row =
    let a : t ≡ t + 0 = omega arith in
    let b : f ≡ f + 0 = omega arith in
    append-nil (pairs_of_type ports t f row) ∙ (λ j. pairs_of_type ports (a j) (b j) row)
pairs_from-push ports t f (x ∷ rows) row =
    let a : t + 1 + length rows ≡ t + suc (length rows) = omega arith in
    let b : f + length x.states + state_total rows ≡ f + state_total (x ∷ rows) = omega (arith, state_total-cons x rows) in
    ap (λ ps. pairs_of_type ports t f x ++ ps) (pairs_from-push ports (t + 1) (f + length x.states) rows row ∙ (λ j. pairs_from ports (t + 1) (f + length x.states) rows ++ pairs_of_type ports (a j) (b j) row))
    ∙ sym (append_assoc (pairs_of_type ports t f x) (pairs_from ports (t + 1) (f + length x.states) rows) (pairs_of_type ports (t + suc (length rows)) (f + state_total (x ∷ rows)) row))
