-- The rows by port hold, port by port, the pairs that provide it and those that require it.
use Rattle.std.proofs.Common.{◌≡◌, ℕ, suc, ◌+◌, ◌-◌, ◌<◌, ◌≤◌, Bool, true, false, cond, ◌||◌, List, [], ◌∷◌, ◌++◌, length, get_or, set, replicate, refl, ap, sym, ◌∙◌, subst, inl, inr, arith, append_assoc, length-set}
use Rattle.std.specs.List.{filter, range_with_len, All, AllByRecursion}
use Rattle.std.specs.List.Sorted.{IsStrictlyIncreasing}
use Rattle.std.specs.Prelude.{slice_index}
use Rattle.std.proofs.lemmas.Bool.{cases_eq, eq-eqb, ne_eqb}
use Rattle.std.proofs.lemmas.List.Elements.{recursion_from_All}
use Rattle.std.proofs.lemmas.List.{append-nil, get_or-set_same, get_or-set_other, length-replicate, get_or-replicate, get_or_default}
use Rattle.metis_universe.specs.Terms.{IsIndexed, IsUniverse, Pair, Universe, all_pairs, has, no_pair, pair_at, pair_count, port_count, port_rows, rows_from, with_pair}

-- ---- ascending ports

abbrev pub Rises : List ℕ → Type 0
Rises [] = Unit {0}
Rises (x ∷ xs) = AllByRecursion (λ y. x < y) xs × Rises xs

pub above_all : (a x : ℕ) (xs : List ℕ) → a < x → AllByRecursion (λ y. x < y) xs → AllByRecursion (λ y. a < y) xs
above_all a x [] l h = tt
above_all a x (y ∷ xs) l h = (omega (arith, h.0), above_all a x xs l h.1)

pub rises : (xs : List ℕ) → IsStrictlyIncreasing xs → Rises xs
rises [] h = tt
rises (x ∷ []) h = (tt, tt)
rises (x ∷ y ∷ xs) h =
    let rest = rises (y ∷ xs) (λ k l. let e : suc k + 1 ≡ suc (k + 1) = omega arith in subst (λ n. slice_index (y ∷ xs) k < slice_index (x ∷ y ∷ xs) n) e (h (suc k) (omega arith))) in
    let first : x < y = h 0 (omega arith) in
    ((first, above_all x y xs first rest.0), rest)

not_above : (x : ℕ) (xs : List ℕ) → AllByRecursion (λ y. x < y) xs → (r : ℕ) → x ≡ r → has xs r ≡ false
not_above x [] h r e = refl
not_above x (y ∷ xs) h r e = ap (λ b. b || has xs r) (ne_eqb y r (λ q. omega (arith, h.0))) ∙ not_above x xs h.1 r e

pub rising_few : (xs : List ℕ) (a n : ℕ) → Rises xs → AllByRecursion (λ x. (a ≤ x) × (x < n)) xs → length xs ≤ n - a
rising_few [] a n up all = omega arith
rising_few (x ∷ xs) a n up all = let rest = rising_few xs (x + 1) n up.1 (both xs up.0 all.1) in omega (arith, rest, all.0.0, all.0.1) where
  both : (ys : List ℕ) → AllByRecursion (λ y. x < y) ys → AllByRecursion (λ y. (a ≤ y) × (y < n)) ys → AllByRecursion (λ y. (x + 1 ≤ y) × (y < n)) ys
  both [] one two = tt
  both (y ∷ ys) one two = ((omega (arith, one.0), two.0.1), both ys one.1 two.1)

-- a list that rises below n is no longer than n
pub few_below : (xs : List ℕ) (n : ℕ) → IsStrictlyIncreasing xs → All (λ x. x < n) xs → length xs ≤ n
few_below xs n up all = let few = rising_few xs 0 n (rises xs up) (by xs (recursion_from_All (λ x. x < n) xs all)) in omega arith where
  by : (ys : List ℕ) → AllByRecursion (λ x. x < n) ys → AllByRecursion (λ x. (0 ≤ x) × (x < n)) ys
  by [] all = tt
  by (y ∷ ys) all = ((omega arith, all.0), by ys all.1)

-- ---- one pair

pub length-with : (p : ℕ) (rows : List (List ℕ)) (ports : List ℕ) → length (with_pair p rows ports) ≡ length rows
length-with p rows [] = refl
length-with p rows (x ∷ ports) = length-with p (set rows x (get_or rows x [] ++ p ∷ [])) ports ∙ length-set rows x (get_or rows x [] ++ p ∷ [])

abbrev own : Bool → ℕ → List ℕ
own b p = cond b (p ∷ []) []

get_or-with : (p : ℕ) (rows : List (List ℕ)) (ports : List ℕ) (r : ℕ) → Rises ports → r < length rows → get_or (with_pair p rows ports) r [] ≡ get_or rows r [] ++ own (has ports r) p
get_or-with p rows [] r s l = sym (append-nil (get_or rows r []))
get_or-with p rows (x ∷ ports) r s l =
    let next = set rows x (get_or rows x [] ++ p ∷ []) in
    let rest = get_or-with p next ports r s.1 (subst (λ n. r < n) (sym (length-set rows x (get_or rows x [] ++ p ∷ []))) l) in
    elim (cases_eq x r) [
      | inl same ↦
          let at : x < length rows = subst (λ n. n < length rows) (sym same) l in
          let here : get_or next r [] ≡ get_or rows r [] ++ p ∷ [] = ap (λ n. get_or next n []) (sym same) ∙ get_or-set_same rows x (get_or rows x [] ++ p ∷ []) [] at ∙ ap (λ n. get_or rows n [] ++ p ∷ []) same in
          rest ∙ (λ i. here i ++ own (not_above x ports s.0 r same i) p) ∙ append-nil (get_or rows r [] ++ p ∷ []) ∙ ap (λ b. get_or rows r [] ++ own (b || has ports r) p) (sym (eq-eqb x r same))
      | inr other ↦
          rest ∙ ap (λ ys. ys ++ own (has ports r) p) (get_or-set_other rows x r (get_or rows x [] ++ p ∷ []) [] (λ e. other (sym e))) ∙ ap (λ b. get_or rows r [] ++ own (b || has ports r) p) (sym (ne_eqb x r other))
    ]

-- ---- all pairs

module _ (ports : Pair → List ℕ) where
  abbrev found : ℕ → List Pair → ℕ → List ℕ
  found p [] r = []
  found p (x ∷ xs) r = own (has (ports x) r) p ++ found (p + 1) xs r

  get_or-rows_from : (p : ℕ) (rows : List (List ℕ)) (xs : List Pair) (r : ℕ) → AllByRecursion (λ x. Rises (ports x)) xs → r < length rows → get_or (rows_from ports p rows xs) r [] ≡ get_or rows r [] ++ found p xs r
  get_or-rows_from p rows [] r s l = sym (append-nil (get_or rows r []))
  get_or-rows_from p rows (x ∷ xs) r s l =
      get_or-rows_from (p + 1) (with_pair p rows (ports x)) xs r s.1 (subst (λ n. r < n) (sym (length-with p rows (ports x))) l)
      ∙ ap (λ ys. ys ++ found (p + 1) xs r) (get_or-with p rows (ports x) r s.0 l)
      ∙ append_assoc (get_or rows r []) (own (has (ports x) r) p) (found (p + 1) xs r)

  length-rows_from : (p : ℕ) (rows : List (List ℕ)) (xs : List Pair) → length (rows_from ports p rows xs) ≡ length rows
  length-rows_from p rows [] = refl
  length-rows_from p rows (x ∷ xs) = length-rows_from (p + 1) (with_pair p rows (ports x)) xs ∙ length-with p rows (ports x)

  module _ (u : Universe) where
    abbrev is_port : ℕ → ℕ → Bool
    is_port r p = has (ports (pair_at u p)) r

    abbrev AreRows : ℕ → List Pair → Type 0
    AreRows p xs = (i : ℕ) → i < length xs → pair_at u (p + i) ≡ get_or xs i no_pair

    filtered : (p : ℕ) (xs : List Pair) (r : ℕ) → AreRows p xs → filter (is_port r) (range_with_len p (length xs)) ≡ found p xs r
    filtered p [] r h = refl
    filtered p (x ∷ xs) r h =
        let zeroth : p ≡ p + 0 = omega arith in
        let here : is_port r p ≡ has (ports x) r = ap (is_port r) zeroth ∙ ap (λ q. has (ports q) r) (h 0 (omega arith)) in
        let rest = filtered (p + 1) xs r (λ i l. let e : p + 1 + i ≡ p + suc i = omega arith in ap (pair_at u) e ∙ h (suc i) (omega arith)) in
        ap (λ b. cond b (p ∷ filter (is_port r) (range_with_len (p + 1) (length xs))) (filter (is_port r) (range_with_len (p + 1) (length xs)))) here
        ∙ elim (has (ports x) r) as (λ b. cond b (p ∷ filter (is_port r) (range_with_len (p + 1) (length xs))) (filter (is_port r) (range_with_len (p + 1) (length xs))) ≡ own b p ++ found (p + 1) xs r) [
          | true ↦ ap (λ ys. p ∷ ys) rest
          | false ↦ rest
        ]

    module _ (up : (p : ℕ) → p < pair_count u → IsStrictlyIncreasing (ports (pair_at u p))) where
      each_rises : (p : ℕ) (xs : List Pair) → p + length xs ≡ pair_count u → AreRows p xs → AllByRecursion (λ x. Rises (ports x)) xs
      each_rises p [] e h = tt
      each_rises p (x ∷ xs) e h =
          let zeroth : p + 0 ≡ p = omega arith in (
            subst (λ q. Rises (ports q)) (h 0 (omega arith)) (rises (ports (pair_at u (p + 0))) (up (p + 0) (omega arith))),
            each_rises (p + 1) xs (omega arith) (λ i l. let e : p + 1 + i ≡ p + suc i = omega arith in ap (pair_at u) e ∙ h (suc i) (omega arith)),
          )

      own_rows : AreRows 0 u.pairs
      own_rows i l = let e : 0 + i ≡ i = omega arith in ap (pair_at u) e

      rows_each : (r : ℕ) → r < port_count u → get_or (port_rows ports (port_count u) u.pairs) r [] ≡ filter (is_port r) (all_pairs u)
      rows_each r l =
          get_or-rows_from 0 (replicate (port_count u) []) u.pairs r (each_rises 0 u.pairs (omega arith) own_rows) (subst (λ n. r < n) (sym (length-replicate (port_count u) [])) l)
          ∙ ap (λ ys. ys ++ found 0 u.pairs r) (get_or-replicate (port_count u) r [] [] l)
          ∙ sym (filtered 0 u.pairs r own_rows)

  rows_many : (count : ℕ) (xs : List Pair) → length (port_rows ports count xs) ≡ count
  rows_many count xs = length-rows_from 0 (replicate count []) xs ∙ length-replicate count []

pub IsIndexed-port_rows : (u : Universe) → IsUniverse u → IsIndexed u (port_rows (λ x. x.provided) (port_count u) u.pairs) (port_rows (λ x. x.required) (port_count u) u.pairs)
IsIndexed-port_rows u k = record {
  provided_rows = rows_many (λ x. x.provided) (port_count u) u.pairs;
  provided = rows_each (λ x. x.provided) u (λ p l. (k.provided p l).0);
  required_rows = rows_many (λ x. x.required) (port_count u) u.pairs;
  required = rows_each (λ x. x.required) u (λ p l. (k.required p l).0);
}

pub provided_within : (u : Universe) → IsUniverse u → All (λ x. All (λ r. r < port_count u) x.provided) u.pairs
provided_within u k = λ i d l. subst (λ (x : Pair). All (λ r. r < port_count u) x.provided) (get_or_default u.pairs i no_pair d l) (k.provided i l).1

pub required_within : (u : Universe) → IsUniverse u → All (λ x. All (λ r. r < port_count u) x.required) u.pairs
required_within u k = λ i d l. subst (λ (x : Pair). All (λ r. r < port_count u) x.required) (get_or_default u.pairs i no_pair d l) (k.required i l).1
