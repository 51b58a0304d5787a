-- How many pairs stand, how many instances lines make, and how many instances are in a pair.
use Rattle.std.proofs.Common.{◌≡◌, ℕ, zero, suc, ◌+◌, ◌<◌, ◌≤◌, Bool, true, false, cond, ◌&&◌, ◌||◌, List, [], ◌∷◌, ◌++◌, length, map, Some, Less, refl, sym, ap, ◌∙◌, arith, nat_eq, nat_cmp, inl, inr, length-append}
use Rattle.std.proofs.lemmas.Bool.{eq-eqb, ne_eqb, cases_lt, false≢true, and_parts, and_from, or_cases, or_left, or_right}
use Rattle.std.specs.List.{filter, count_by, enumerate_from, flat_map, range_with_len, slice_get, AllByRecursion}
use Rattle.std.specs.List.Sorted.{IsStrictlySortedBy}
use Rattle.std.proofs.lemmas.List.Sums.{sum_by-append, sum_by-cons}
use Rattle.std.specs.Cmp.{nat_cmp_is}
use Rattle.std.specs.Map.{lookup, keys_of}
use Rattle.std.specs.Option.{option_map_or}
use Rattle.metis_ids.specs.declared.actions.Action.{Action}
use Rattle.metis_ids.specs.declared.actions.Action.TheVariants.{Move}
use Rattle.metis_universe.proofs.Rounds.{has-filter, layers_grow, grows_to}
use Rattle.metis_universe.specs.Terms.{Universe, all_pairs, has, is_free, is_in_layer, layer_set, layered, origin_of, pair_count}
use Rattle.metis_layers.proofs.LayerFacts.{in_layer, layer_below, layer_has}
use Rattle.metis_ids.specs.Terms.{makes}
use Rattle.metis_ids.proofs.Lists.{filter_short}
use Rattle.metis_layers.specs.Terms.{attained_pairs, instances_of, is_standing, path_to, path_within, slot_binds, slot_line, slot_lines, slot_move, slot_moves, slot_unbinds, slots_gained, standing_pairs}

-- ---- kept elements

-- what one test keeps and what another keeps are kept by one that keeps both, where no element passes the two
kept_together : (s t w : ℕ → Bool) (xs : List ℕ) → ((x : ℕ) → s x ≡ true → t x ≡ true → ⊥) → ((x : ℕ) → s x ≡ true → has xs x ≡ true → w x ≡ true) → ((x : ℕ) → t x ≡ true → has xs x ≡ true → w x ≡ true)
    → length (filter s xs) + length (filter t xs) ≤ length (filter w xs)
kept_together s t w [] apart one two = omega arith
kept_together s t w (x ∷ xs) apart one two =
    let rest = kept_together s t w xs apart (λ y h there. one y h (or_right (nat_eq x y) (has xs y) there)) (λ y h there. two y h (or_right (nat_eq x y) (has xs y) there)) in
    let here = or_left (nat_eq x x) (has xs x) (eq-eqb x x refl) in
    by_cases (s x) (t x) (w x) (apart x) (λ h. one x h here) (λ h. two x h here) rest where
      by_cases : (a b c : Bool) → (a ≡ true → b ≡ true → ⊥) → (a ≡ true → c ≡ true) → (b ≡ true → c ≡ true) → length (filter s xs) + length (filter t xs) ≤ length (filter w xs)
          → length (cond a (x ∷ filter s xs) (filter s xs)) + length (cond b (x ∷ filter t xs) (filter t xs)) ≤ length (cond c (x ∷ filter w xs) (filter w xs))
      by_cases true true true never one two rest = absurd (never refl refl)
      by_cases true true false never one two rest = absurd (never refl refl)
      by_cases true false true never one two rest = omega (arith, rest)
      by_cases true false false never one two rest = absurd (false≢true (one refl))
      by_cases false true true never one two rest = omega (arith, rest)
      by_cases false true false never one two rest = absurd (false≢true (two refl))
      by_cases false false true never one two rest = omega (arith, rest)
      by_cases false false false never one two rest = rest

kept_same : (t : ℕ → Bool) (xs : List ℕ) → length (filter (has (filter t xs)) xs) ≤ length (filter t xs)
kept_same t xs = kept_into (has (filter t xs)) t xs (λ x h there. (and_parts (t x) (has xs x) (sym (has-filter t x xs) ∙ h)).0) where
  kept_into : (s w : ℕ → Bool) (ys : List ℕ) → ((x : ℕ) → s x ≡ true → has ys x ≡ true → w x ≡ true) → length (filter s ys) ≤ length (filter w ys)
  kept_into s w ys into = omega (arith, kept_together s (λ x. false) w ys (λ x one two. false≢true two) into (λ x one there. absurd (false≢true one)))

module _ (u : Universe) where
  abbrev in_some : ℕ → ℕ → ℕ → Bool
  in_some a zero p = false
  in_some a (suc n) p = is_in_layer u a p || in_some (a + 1) n p

  abbrev layers_from : ℕ → ℕ → List ℕ
  layers_from a n = flat_map (λ k. filter (is_in_layer u k) (all_pairs u)) (range_with_len a n)

  -- a pair that is in one of these layers
  record InSome (a p : ℕ) : Type 0 where
    layer : ℕ
    there : has (filter (is_in_layer u layer) (all_pairs u)) p ≡ true
    high : a ≤ layer

  in_some_at : (n a p : ℕ) → has (all_pairs u) p ≡ true → in_some a n p ≡ true → InSome a p
  in_some_at zero a p among h = absurd (false≢true h)
  in_some_at (suc n) a p among h = elim (or_cases (is_in_layer u a p) (in_some (a + 1) n p) h) [
    | inl now ↦ record { layer = a; there = has-filter (is_in_layer u a) p (all_pairs u) ∙ and_from _ _ now among; high = omega arith }
    | inr later ↦ let rest = in_some_at n (a + 1) p among later in record { layer = rest.layer; there = rest.there; high = omega (arith, rest.high) }
  ]

  some_same : (a b : ℕ) → Some a ≡ Some b → a ≡ b
  some_same a b h = cc

  one_layer : (n a p : ℕ) → has (all_pairs u) p ≡ true → is_in_layer u a p ≡ true → in_some (a + 1) n p ≡ true → ⊥
  one_layer n a p among now later =
      let at = in_some_at n (a + 1) p among later in
      let same = some_same a at.layer (sym (in_layer u a p (has-filter (is_in_layer u a) p (all_pairs u) ∙ and_from _ _ now among)) ∙ in_layer u at.layer p at.there) in
      omega (arith, same, at.high)

  layers_count : (n a : ℕ) → length (layers_from a n) ≤ length (filter (λ p. has (all_pairs u) p && in_some a n p) (all_pairs u))
  layers_count zero a = omega arith
  layers_count (suc n) a =
      let rest = layers_count n (a + 1) in
      let now : ℕ → Bool = λ p. has (all_pairs u) p && is_in_layer u a p in
      let both = kept_together now (λ p. has (all_pairs u) p && in_some (a + 1) n p) (λ p. has (all_pairs u) p && in_some a (suc n) p) (all_pairs u)
      (λ p one two. let first = and_parts (has (all_pairs u) p) (is_in_layer u a p) one in one_layer n a p first.0 first.1 (and_parts (has (all_pairs u) p) (in_some (a + 1) n p) two).1)
      (λ p one there. and_from _ _ there (or_left (is_in_layer u a p) (in_some (a + 1) n p) (and_parts (has (all_pairs u) p) (is_in_layer u a p) one).1))
      (λ p two there. and_from _ _ there (or_right (is_in_layer u a p) (in_some (a + 1) n p) (and_parts (has (all_pairs u) p) (in_some (a + 1) n p) two).1)) in
      let same = kept_together (is_in_layer u a) (λ x. false) now (all_pairs u) (λ x one two. false≢true two) (λ x one there. and_from _ _ there one) (λ x one there. absurd (false≢true one)) in
      omega (arith, rest, both, same, length-append (filter (is_in_layer u a) (all_pairs u)) (layers_from (a + 1) n))

  attained_kept : length (filter (has (attained_pairs u)) (all_pairs u)) ≤ length (attained_pairs u)
  attained_kept = by (pair_count u) where
    by : (k : ℕ) → length (filter (has (layer_set u k)) (all_pairs u)) ≤ length (layer_set u k)
    by zero = kept_same (is_free u) (all_pairs u)
    by (suc k) = kept_same _ (all_pairs u)

  attained_by : (p k : ℕ) → k < pair_count u → has (layer_set u k) p ≡ true → has (attained_pairs u) p ≡ true
  attained_by p k low there = by (pair_count u) low where
    next : (n m : ℕ) → m ≡ n + 1 → has (layer_set u n) p ≡ true → has (layer_set u m) p ≡ true
    next n m is h = ap (λ j. has (layer_set u j) p) is ∙ grows_to (layers_grow u) n 1 p h

    by : (n : ℕ) → k < n → has (layer_set u n) p ≡ true
    by zero low = absurd (omega arith)
    by (suc n) low = elim (cases_lt k n) [
      | inl below ↦ next n (suc n) (omega arith) (by n below)
      | inr here ↦ next k (suc n) (omega arith) there
    ]

  layered_few : length (layered u) ≤ length (attained_pairs u)
  layered_few =
      let into = kept_together (λ p. has (all_pairs u) p && in_some 0 (pair_count u) p) (λ x. false) (has (attained_pairs u)) (all_pairs u) (λ x one two. false≢true two)
      (λ p one there.
      let at = in_some_at (pair_count u) 0 p there (and_parts (has (all_pairs u) p) (in_some 0 (pair_count u) p) one).1 in
      let is = in_layer u at.layer p at.there in
      attained_by p at.layer (layer_below u p at.layer is) (layer_has u p at.layer is))
      (λ p one there. absurd (false≢true one)) in
      omega (arith, layers_count (pair_count u) 0, into, attained_kept)

  pub standing_few : length (standing_pairs u) ≤ length (attained_pairs u)
  standing_few = omega (arith, filter_short (is_standing u) (layered u), layered_few)

  -- ---- instances that lines make

  made : List Action → ℕ
  made actions = length (filter makes actions)

  none_made : (xs ys : List Action) → length (filter makes (xs ++ ys)) ≡ length (filter makes xs) + length (filter makes ys)
  none_made [] ys = omega arith
  none_made (x ∷ xs) ys = let rest = none_made xs ys in elim (makes x) as (λ b. length (cond b (x ∷ filter makes (xs ++ ys)) (filter makes (xs ++ ys))) ≡ length (cond b (x ∷ filter makes xs) (filter makes xs)) + length (filter makes ys)) [
    | true ↦ omega (arith, rest)
    | false ↦ rest
  ]

  binds_make : (holder : ℕ → ℕ → ℕ) (z : ℕ) (ss : List (ℕ × ℕ)) → length (filter makes (slot_binds holder z ss)) ≡ 0
  binds_make holder z [] = refl
  binds_make holder z (s ∷ ss) = binds_make holder z ss

  unbinds_make : (holder : ℕ → ℕ → ℕ) (z : ℕ) (ss : List (ℕ × ℕ)) → length (filter makes (slot_unbinds holder z ss)) ≡ 0
  unbinds_make holder z [] = refl
  unbinds_make holder z (s ∷ ss) = unbinds_make holder z ss

  move_makes : (holder : ℕ → ℕ → ℕ) (z p q : ℕ) → length (filter makes (slot_move u holder z p q)) ≡ 0
  move_makes holder z p q = none_made (slot_binds holder z (slots_gained u p q)) (Move z p q ∷ slot_unbinds holder z (slots_gained u q p)) ∙ rw (binds_make holder z (slots_gained u p q), unbinds_make holder z (slots_gained u q p)) refl

  moves_make : (holder : ℕ → ℕ → ℕ) (z p : ℕ) (path : List ℕ) → length (filter makes (slot_moves u holder z p path)) ≡ 0
  moves_make holder z p [] = refl
  moves_make holder z p (q ∷ path) = none_made (slot_move u holder z p q) (slot_moves u holder z q path) ∙ omega (arith, move_makes holder z p q, moves_make holder z q path)

  -- a line along a path that is not empty makes one
  line_makes : (holder : ℕ → ℕ → ℕ) (z q : ℕ) (path : List ℕ) → length (filter makes (slot_line u holder z (path ++ q ∷ []))) ≡ 1
  line_makes holder z q [] = refl
  line_makes holder z q (p ∷ path) = ap suc (moves_make holder z p (path ++ q ∷ []))

  -- and no path along origins is empty
  path_makes : (holder : ℕ → ℕ → ℕ) (z n p : ℕ) → length (filter makes (slot_line u holder z (path_within u n p))) ≡ 1
  path_makes holder z zero p = refl
  path_makes holder z (suc n) p = line_makes holder z p (option_map_or (path_within u n) (origin_of u p) [])

  -- so there is one for each of the pairs that the lines end in
  pub slot_lines_make : (holder : ℕ → ℕ → ℕ) (z : ℕ) (ends : List ℕ) → instances_of (slot_lines u holder z (map (path_to u) ends)) ≡ length ends
  slot_lines_make holder z [] = refl
  slot_lines_make holder z (p ∷ ends) =
      let paths = map (path_to u) ends in
      omega (arith, none_made (slot_line u holder z (path_to u p)) (slot_lines u holder (z + 1) paths), path_makes holder z (pair_count u) p, slot_lines_make holder (z + 1) ends)

-- ---- instances by number

pub lookup-enumerate : (xs : List ℕ) (a z : ℕ) → lookup (nat_eq (a + z)) (enumerate_from a xs) ≡ slice_get xs z
lookup-enumerate [] a z = refl
lookup-enumerate (x ∷ xs) a zero = rw (eq-eqb (a + 0) a (omega arith)) refl
lookup-enumerate (x ∷ xs) a (suc z) = rw (ne_eqb (a + suc z) a (λ e. omega (arith, e))) (ap (λ n. lookup (nat_eq n) (enumerate_from (a + 1) xs)) (omega arith) ∙ lookup-enumerate xs (a + 1) z)

pub enumerate_ascends : (xs : List ℕ) (a : ℕ) → IsStrictlySortedBy nat_cmp (keys_of (enumerate_from a xs))
unfolding IsStrictlySortedBy
enumerate_ascends [] a = tt
enumerate_ascends (x ∷ xs) a = (all_above xs (a + 1) (omega arith), enumerate_ascends xs (a + 1)) where
  all_above : (ys : List ℕ) (b : ℕ) → a < b → AllByRecursion (λ y. nat_cmp a y ≡ Less) (keys_of (enumerate_from b ys))
  all_above [] b low = tt
  all_above (y ∷ ys) b low = (sym (nat_cmp_is a b Less low), all_above ys (b + 1) (omega arith))

pub count-enumerate : (p a : ℕ) (xs : List ℕ) → count_by (λ e. nat_eq e.1 p) (enumerate_from a xs) ≡ count_by (λ q. nat_eq q p) xs
count-enumerate p a [] = refl
count-enumerate p a (x ∷ xs) = sum_by-cons (λ (e : ℕ × ℕ). cond (nat_eq e.1 p) 1 0) (a, x) (enumerate_from (a + 1) xs)
    ∙ ap (λ n. cond (nat_eq x p) 1 0 + n) (count-enumerate p (a + 1) xs) ∙ sym (sum_by-cons (λ (q : ℕ). cond (nat_eq q p) 1 0) x xs)

pub count-append : (p : ℕ) (xs ys : List ℕ) → count_by (λ q. nat_eq q p) ys ≤ count_by (λ q. nat_eq q p) (xs ++ ys)
count-append p xs ys = let both = sum_by-append (λ (q : ℕ). cond (nat_eq q p) 1 0) xs ys in omega (arith, both)
