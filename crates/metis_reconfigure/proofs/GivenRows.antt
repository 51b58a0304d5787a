-- The given instances of each port, as they are put into rows.
use Rattle.std.proofs.Common.{◌≡◌, ℕ, zero, suc, ◌+◌, ◌<◌, ◌≤◌, Bool, true, false, cond, not, ◌||◌, List, [], ◌∷◌, ◌++◌, None, get_or, length, map, take, refl, sym, ap, ◌∙◌, subst, arith, nat_eq, inl, inr, append-nil, append_assoc}
use Rattle.std.specs.Prelude.{replicate, slice_set}
use Rattle.std.specs.List.{filter, range_with_len, slice_index_or}
use Rattle.std.specs.Map.{keys_of}
use Rattle.std.specs.Option.{option_map_or}
use Rattle.std.proofs.lemmas.Bool.{both_ways, cases_lt, eq-eqb, eqb-true, false_from_ne_true, or_cases}
use Rattle.std.proofs.lemmas.List.{get_or-set_other, get_or-set_same, get_or_past, length-map, take_all, take_more}
use Rattle.std.proofs.lemmas.List.FromFn.{get_or-map-range_with_len, length-range_with_len}
use Rattle.metis_ids.proofs.Lists.{has-append, has_at}
use Rattle.metis_universe.specs.Terms.{AreDifferent, Config, Universe, has, pair_of, provides}
use Rattle.metis_completion.specs.Terms.{given_in}
use Rattle.metis_reconfigure.specs.Terms.{given, gives}

-- ---- rows

none_given : (n r : ℕ) → given_in (replicate n []) r ≡ []
none_given zero r = refl
none_given (suc n) zero = refl
none_given (suc n) (suc r) = none_given n r

-- ---- instance after instance

module _ (u : Universe) (c : Config) (leaving : List ℕ) where
  abbrev stays : ℕ → Bool
  stays z = not (has leaving z)

  -- what the rows have, and what the instances that are left add
  abbrev pub AreGivenSoFar : List (List ℕ) → List (ℕ × ℕ) → Type 0
  AreGivenSoFar rows left = (r : ℕ) → given u c leaving r ≡ given_in rows r ++ filter (gives u c r) (filter stays (keys_of left))

  pub given_begun : (rows : List (List ℕ)) (n : ℕ) (it : List (ℕ × ℕ)) → rows ≡ replicate n [] → it ≡ c.instances → AreGivenSoFar rows it
  given_begun rows n it is all r =
      sym (ap (λ zs. zs ++ given u c leaving r) (ap (λ l. given_in l r) is ∙ none_given n r))
      ∙ ap (λ es. given_in rows r ++ filter (gives u c r) (filter stays (keys_of es))) (sym all)

  pub given_one : (rows rows' : List (List ℕ)) (e : ℕ × ℕ) (it left : List (ℕ × ℕ)) → it ≡ e ∷ left → has leaving e.0 ≡ false
      → ((r : ℕ) → given_in rows' r ≡ given_in rows r ++ cond (gives u c r e.0) (e.0 ∷ []) []) → AreGivenSoFar rows it → AreGivenSoFar rows' left
  given_one rows rows' e it left is off added k r =
      let rest = filter stays (keys_of left) in
      k r
      ∙ ap (λ es. given_in rows r ++ filter (gives u c r) (filter stays (keys_of es))) is
      ∙ ap (λ b. given_in rows r ++ filter (gives u c r) (cond (not b) (e.0 ∷ rest) rest)) off
      ∙ by (gives u c r e.0) (given_in rows r) (filter (gives u c r) rest)
      ∙ ap (λ zs. zs ++ filter (gives u c r) rest) (sym (added r)) where
        by : (b : Bool) (first last : List ℕ) → first ++ cond b (e.0 ∷ last) last ≡ (first ++ cond b (e.0 ∷ []) []) ++ last
        by true first last = sym (append_assoc first (e.0 ∷ []) last)
        by false first last = ap (λ zs. zs ++ last) (sym (append-nil first))

  pub given_none : (rows : List (List ℕ)) (e : ℕ × ℕ) (it left : List (ℕ × ℕ)) → it ≡ e ∷ left → has leaving e.0 ≡ true → AreGivenSoFar rows it → AreGivenSoFar rows left
  given_none rows e it left is gone k r =
      let rest = filter stays (keys_of left) in
      k r
      ∙ ap (λ es. given_in rows r ++ filter (gives u c r) (filter stays (keys_of es))) is
      ∙ ap (λ b. given_in rows r ++ filter (gives u c r) (cond (not b) (e.0 ∷ rest) rest)) gone

  pub given_all : (rows : List (List ℕ)) → AreGivenSoFar rows [] → (r : ℕ) → given_in rows r ≡ given u c leaving r
  given_all rows k r = sym (k r ∙ append-nil (given_in rows r))

-- ---- port after port

-- an element of different ones is not before its place
pub not_before : (xs : List ℕ) (i d : ℕ) → AreDifferent xs → i < length xs → has (take i xs) (get_or xs i d) ≡ false
not_before [] i d differ low = absurd (omega arith)
not_before (x ∷ xs) zero d differ low = refl
not_before (x ∷ xs) (suc i) d differ low =
    let low' : i < length xs = omega arith in
    false_from_ne_true _ (λ h. elim (or_cases (nat_eq x (get_or xs i d)) (has (take i xs) (get_or xs i d)) h) [
      | inl now ↦ both_ways (has xs x) differ.0 (subst (λ y. has xs y ≡ true) (sym (eqb-true x (get_or xs i d) now)) (has_at xs i d low'))
      | inr later ↦ both_ways (has (take i xs) (get_or xs i d)) (not_before xs i d differ.1 low') later
    ])

row_set : (rows : List (List ℕ)) (p r : ℕ) (v : List ℕ) → p < length rows → given_in (slice_set rows p v) r ≡ cond (nat_eq p r) v (given_in rows r)
row_set rows p r v low = elim (nat_eq p r) as (λ b. nat_eq p r ≡ b → given_in (slice_set rows p v) r ≡ cond b v (given_in rows r)) [
  | true ↦ λ is. subst (λ q. given_in (slice_set rows p v) q ≡ v) (eqb-true p r is) (get_or-set_same rows p v [] low)
  | false ↦ λ off. get_or-set_other rows p r v [] (λ e. both_ways (nat_eq p r) off (eq-eqb p r (sym e)))
] refl

pub length_set : (rows : List (List ℕ)) (p : ℕ) (v : List ℕ) → length (slice_set rows p v) ≡ length rows
length_set [] p v = refl
length_set (x ∷ rows) zero v = refl
length_set (x ∷ rows) (suc p) v = ap suc (length_set rows p v)

module _ (z : ℕ) (first : List (List ℕ)) (ports : List ℕ) where
  -- the instance is given for the first of the ports
  abbrev pub IsGivenTo : ℕ → List (List ℕ) → Type 0
  IsGivenTo i rows = (r : ℕ) → given_in rows r ≡ given_in first r ++ cond (has (take i ports) r) (z ∷ []) []

  pub given_to_none : IsGivenTo 0 first
  given_to_none r = sym (append-nil (given_in first r))

  pub given_to_one : (i port : ℕ) (rows rows' : List (List ℕ)) → AreDifferent ports → i < length ports → port ≡ get_or ports i port → port < length rows
      → rows' ≡ slice_set rows port (given_in rows port ++ z ∷ []) → IsGivenTo i rows → IsGivenTo (i + 1) rows'
  given_to_one i port rows rows' differ low is inside now k r =
      let more : has (take (i + 1) ports) r ≡ (has (take i ports) r || (nat_eq port r || false)) =
      ap (λ l. has l r) (take_more ports i port low ∙ ap (λ x. take i ports ++ x ∷ []) (sym is)) ∙ has-append (take i ports) (port ∷ []) r in
      let fresh : has (take i ports) port ≡ false = ap (has (take i ports)) is ∙ not_before ports i port differ low in
      ap (λ l. given_in l r) now ∙ row_set rows port r (given_in rows port ++ z ∷ []) inside
      ∙ elim (nat_eq port r) as (λ b. nat_eq port r ≡ b → cond b (given_in rows port ++ z ∷ []) (given_in rows r) ≡ given_in first r ++ cond (has (take i ports) r || (b || false)) (z ∷ []) []) [
        | true ↦ λ same.
            let e = eqb-true port r same in
            let before : given_in rows port ≡ given_in first port = k port ∙ ap (λ b. given_in first port ++ cond b (z ∷ []) []) fresh ∙ append-nil (given_in first port) in
            ap (λ l. l ++ z ∷ []) before ∙ ap (λ p. given_in first p ++ z ∷ []) e ∙ ap (λ b. given_in first r ++ cond b (z ∷ []) []) (sym (either (has (take i ports) r)))
        | false ↦ λ _. k r ∙ ap (λ b. given_in first r ++ cond b (z ∷ []) []) (sym (neither (has (take i ports) r)))
      ] refl
      ∙ ap (λ b. given_in first r ++ cond b (z ∷ []) []) (sym more) where
        either : (b : Bool) → (b || true) ≡ true
        either true = refl
        either false = refl

        neither : (b : Bool) → (b || false) ≡ b
        neither true = refl
        neither false = refl

  pub given_to_all : (i : ℕ) (rows : List (List ℕ)) → length ports ≤ i → IsGivenTo i rows → (r : ℕ) → given_in rows r ≡ given_in first r ++ cond (has ports r) (z ∷ []) []
  given_to_all i rows high k r = k r ∙ ap (λ l. given_in first r ++ cond (has l r) (z ∷ []) []) (take_all i ports high)

-- an instance that does not stand gives nothing
pub gives_nothing : (u : Universe) (c : Config) (z : ℕ) (rows : List (List ℕ)) → pair_of c z ≡ None → (r : ℕ) → given_in rows r ≡ given_in rows r ++ cond (gives u c r z) (z ∷ []) []
gives_nothing u c z rows none r = sym (ap (λ o. given_in rows r ++ cond (option_map_or (λ p. provides u p r) o false) (z ∷ []) []) none ∙ append-nil (given_in rows r))

-- ---- how many

pub counted_at : (rows : List (List ℕ)) (counts : List ℕ) (n : ℕ) → length rows ≡ n → counts ≡ map (λ r. length (given_in rows r)) (range_with_len 0 n) → (r : ℕ) → slice_index_or counts r 0 ≡ length (given_in rows r)
counted_at rows counts n all is r = elim (cases_lt r n) [
  | inl low ↦ ap (λ l. slice_index_or l r 0) is ∙ get_or-map-range_with_len (λ s. length (given_in rows s)) 0 n r r 0 low (omega arith)
  | inr high ↦
      ap (λ l. slice_index_or l r 0) is
      ∙ get_or_past (map (λ s. length (given_in rows s)) (range_with_len 0 n)) r 0 (omega (arith, mapped, ranged))
      ∙ ap length (sym (get_or_past rows r [] (omega (arith, all))))
] where
  mapped : length (map (λ s. length (given_in rows s)) (range_with_len 0 n)) ≡ length (range_with_len 0 n)
  mapped = length-map (range_with_len 0 n) (λ s. length (given_in rows s))

  ranged : length (range_with_len 0 n) ≡ n
  ranged = length-range_with_len 0 n
