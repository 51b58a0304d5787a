-- What a pair's layer says of its origin and of the providers of what it requires.
use Rattle.std.proofs.Common.{◌≡◌, ℕ, zero, suc, ◌+◌, ◌<◌, ◌≤◌, Bool, true, false, cond, ◌||◌, List, [], ◌∷◌, Option, Some, None, refl, sym, ap, ◌∙◌, subst, arith, nat_eq, inl, inr}
use Rattle.std.proofs.lemmas.Bool.{eqb-true, eq-eqb, cases_eq, cases_lt, false≢true, and_parts, and_from, or_cases, or_left, or_right, both_ways}
use Rattle.std.proofs.lemmas.List.Folds.{find-append}
use Rattle.std.specs.List.{list_any, list_all, filter, find, flat_map, range_with_len}
use Rattle.std.specs.Option.{option_map_or, option_and_then}
use Rattle.metis_ids.proofs.Finding.{none_found}
use Rattle.metis_ids.proofs.Lists.{all_has}
use Rattle.metis_universe.proofs.Rounds.{has-filter, layer_of-least}
use Rattle.metis_universe.specs.Terms.{IsLeastRound, Universe, all_pairs, has, is_enabled, is_free, is_in_layer, layer_of, layer_set, next_of, origin_below, origin_of, pair_count, provider_of, provides, required_of, requires}

-- what some number of a list passes
pub record SomeOf (t : ℕ → Bool) (xs : List ℕ) : Type 0 where
  pub number : ℕ
  pub there : has xs number ≡ true
  pub passes : t number ≡ true

pub some_of : (t : ℕ → Bool) (xs : List ℕ) → list_any t xs ≡ true → SomeOf t xs
some_of t [] h = absurd (false≢true h)
some_of t (x ∷ xs) h = elim (or_cases (t x) (list_any t xs) h) [
  | inl now ↦ record { number = x; there = or_left (nat_eq x x) (has xs x) (eq-eqb x x refl); passes = now }
  | inr later ↦ let s = some_of t xs later in record { number = s.number; there = or_right (nat_eq x s.number) (has xs s.number) s.there; passes = s.passes }
]

-- what a search finds is in the list and passes
pub found : (t : ℕ → Bool) (xs : List ℕ) (y : ℕ) → find t xs ≡ Some y → (has xs y ≡ true) × (t y ≡ true)
found t [] y h = cc
found t (x ∷ xs) y h =
    elim (t x) as (λ b. t x ≡ b → cond b (Some x) (find t xs) ≡ Some y → (has (x ∷ xs) y ≡ true) × (t y ≡ true)) [
      | true ↦ λ is e. let same : x ≡ y = cc in (or_left (nat_eq x y) (has xs y) (eq-eqb x y same), subst (λ k. t k ≡ true) same is)
      | false ↦ λ is e. let rest = found t xs y e in (or_right (nat_eq x y) (has xs y) rest.0, rest.1)
    ] refl h

-- where some number passes, a search finds one
pub finds : (t : ℕ → Bool) (xs : List ℕ) (x : ℕ) → has xs x ≡ true → t x ≡ true → (y : ℕ) × (find t xs ≡ Some y)
finds t [] x there passes = absurd (false≢true there)
finds t (z ∷ xs) x there passes =
    elim (t z) as (λ b. t z ≡ b → (y : ℕ) × (cond b (Some z) (find t xs) ≡ Some y)) [
      | true ↦ λ _. (z, refl)
      | false ↦ λ no. elim (or_cases (nat_eq z x) (has xs x) there) [
        | inl same ↦ absurd (both_ways (t z) no (ap t (eqb-true z x same) ∙ passes))
        | inr later ↦ finds t xs x later passes
      ]
    ] refl

module _ (u : Universe) where
  pub layer_has : (p l : ℕ) → layer_of u p ≡ Some l → has (layer_set u l) p ≡ true
  layer_has p l is = (subst (IsLeastRound u p) is (layer_of-least u p)).0

  pub layer_first : (p l k : ℕ) → layer_of u p ≡ Some l → k < l → has (layer_set u k) p ≡ false
  layer_first p l k is below = (subst (IsLeastRound u p) is (layer_of-least u p)).1 k below

  -- what is in the set of round k has a layer, at most k
  pub record HasLayer (p k : ℕ) : Type 0 where
    pub layer : ℕ
    pub is : layer_of u p ≡ Some layer
    pub low : layer ≤ k

  pub layer_by : (p k : ℕ) → has (layer_set u k) p ≡ true → HasLayer p k
  layer_by p k there = by (layer_of u p) refl where
    by : (o : Option ℕ) → layer_of u p ≡ o → HasLayer p k
    by None is = absurd (both_ways _ ((subst (IsLeastRound u p) is (layer_of-least u p)) k) there)
    by (Some l) is = elim (cases_lt k l) [
      | inl below ↦ absurd (both_ways _ (layer_first p l k is below) there)
      | inr low ↦ record { layer = l; is = is; low = low }
    ]

  pub layer_pair : (p l : ℕ) → layer_of u p ≡ Some l → has (all_pairs u) p ≡ true
  layer_pair p l is = among l (layer_has p l is) where
    among : (k : ℕ) → has (layer_set u k) p ≡ true → has (all_pairs u) p ≡ true
    among zero h = (and_parts (is_free u p) (has (all_pairs u) p) (sym (has-filter (is_free u) p (all_pairs u)) ∙ h)).1
    among (suc k) h = (and_parts (has (layer_set u k) p || is_enabled u (layer_set u k) p) (has (all_pairs u) p) (sym (has-filter (λ q. has (layer_set u k) q || is_enabled u (layer_set u k) q) p (all_pairs u)) ∙ h)).1

  pub layer_free : (p : ℕ) → layer_of u p ≡ Some 0 → is_free u p ≡ true
  layer_free p is = (and_parts (is_free u p) (has (all_pairs u) p) (sym (has-filter (is_free u) p (all_pairs u)) ∙ layer_has p 0 is)).0

  pub layer_enabled : (p k : ℕ) → layer_of u p ≡ Some (suc k) → is_enabled u (layer_set u k) p ≡ true
  layer_enabled p k is =
      let both = (and_parts (has (layer_set u k) p || is_enabled u (layer_set u k) p) (has (all_pairs u) p)
      (sym (has-filter (λ q. has (layer_set u k) q || is_enabled u (layer_set u k) q) p (all_pairs u)) ∙ layer_has p (suc k) is)).0 in
      elim (or_cases (has (layer_set u k) p) (is_enabled u (layer_set u k) p) both) [
        | inl before ↦ absurd (both_ways _ (layer_first p (suc k) k is (omega arith)) before)
        | inr now ↦ now
      ]

  -- the origin of a pair of a layer above 0
  pub record HasOrigin (p k : ℕ) : Type 0 where
    pub origin : ℕ
    pub is : origin_of u p ≡ Some origin
    pub leads : has (next_of u origin) p ≡ true
    pub lower : HasLayer origin k

  pub origin_at : (p k : ℕ) → layer_of u p ≡ Some (suc k) → HasOrigin p k
  origin_at p k is =
      let leads = (and_parts (list_any (λ o. has (next_of u o) p) (layer_set u k)) (list_all (λ r. list_any (λ y. provides u y r) (layer_set u k)) (required_of u p)) (layer_enabled p k is)).0 in
      let some = some_of (λ o. has (next_of u o) p) (layer_set u k) leads in
      let f = finds (λ o. has (next_of u o) p) (layer_set u k) some.number some.there some.passes in
      let at = found (λ o. has (next_of u o) p) (layer_set u k) f.0 f.1 in
      record { origin = f.0; is = ap (λ l. option_and_then (origin_below u p) l) is ∙ f.1; leads = at.1; lower = layer_by f.0 k at.0 }

  pub no_origin : (p : ℕ) → layer_of u p ≡ Some 0 → origin_of u p ≡ None
  no_origin p is = ap (λ l. option_and_then (origin_below u p) l) is

  -- ---- the first provider of a port

  -- a search through the layers from a on finds a pair of no higher layer than one that passes
  record FoundBy (t : ℕ → Bool) (a n k : ℕ) : Type 0 where
    pair : ℕ
    layer : ℕ
    is : find t (flat_map (λ j. filter (is_in_layer u j) (all_pairs u)) (range_with_len a n)) ≡ Some pair
    low : layer ≤ k
    there : has (filter (is_in_layer u layer) (all_pairs u)) pair ≡ true
    passes : t pair ≡ true

  find_in_layers : (t : ℕ → Bool) (n a k x : ℕ) → a ≤ k → k < a + n → has (filter (is_in_layer u k) (all_pairs u)) x ≡ true → t x ≡ true → FoundBy t a n k
  find_in_layers t zero a k x low high there passes = absurd (omega arith)
  find_in_layers t (suc n) a k x low high there passes =
      by (find t (filter (is_in_layer u a) (all_pairs u))) refl (λ above. find_in_layers t n (a + 1) k x above (omega arith) there passes) where
        by : (o : Option ℕ) → find t (filter (is_in_layer u a) (all_pairs u)) ≡ o → (a + 1 ≤ k → FoundBy t (a + 1) n k) → FoundBy t a (suc n) k
        by (Some y) is again =
            let at = found t (filter (is_in_layer u a) (all_pairs u)) y is in
            record {
              pair = y;
              layer = a;
              low = low;
              there = at.0;
              passes = at.1;
              is = find-append t (filter (is_in_layer u a) (all_pairs u)) (flat_map (λ j. filter (is_in_layer u j) (all_pairs u)) (range_with_len (a + 1) n)) ∙ rw is refl;
            }
        by None is again = elim (cases_eq a k) [
          | inl same ↦ absurd (none_found t (filter (is_in_layer u a) (all_pairs u)) x is (subst (λ j. has (filter (is_in_layer u j) (all_pairs u)) x ≡ true) (sym same) there) passes)
          | inr other ↦
              let f = again (omega arith) in
              record {
                pair = f.pair;
                layer = f.layer;
                low = f.low;
                there = f.there;
                passes = f.passes;
                is = find-append t (filter (is_in_layer u a) (all_pairs u)) (flat_map (λ j. filter (is_in_layer u j) (all_pairs u)) (range_with_len (a + 1) n)) ∙ rw is f.is;
              }
        ]

  pub in_layer : (k p : ℕ) → has (filter (is_in_layer u k) (all_pairs u)) p ≡ true → layer_of u p ≡ Some k
  in_layer k p h = by (layer_of u p) refl (and_parts (is_in_layer u k p) (has (all_pairs u) p) (sym (has-filter (is_in_layer u k) p (all_pairs u)) ∙ h)).0 where
    by : (o : Option ℕ) → layer_of u p ≡ o → is_in_layer u k p ≡ true → layer_of u p ≡ Some k
    by None is t = absurd (false≢true (sym (ap (λ o. option_map_or (λ l. nat_eq l k) o false) is) ∙ t))
    by (Some l) is t = is ∙ ap Some (eqb-true l k (sym (ap (λ o. option_map_or (λ j. nat_eq j k) o false) is) ∙ t))

  pub among_layer : (k p : ℕ) → layer_of u p ≡ Some k → has (filter (is_in_layer u k) (all_pairs u)) p ≡ true
  among_layer k p is = has-filter (is_in_layer u k) p (all_pairs u) ∙ and_from _ _ (ap (λ o. option_map_or (λ l. nat_eq l k) o false) is ∙ eq-eqb k k refl) (layer_pair p k is)

  pub layer_below : (p k : ℕ) → layer_of u p ≡ Some k → k < pair_count u
  layer_below p k is = omega (arith, (found_in_range (λ j. has (layer_set u j) p) 0 (pair_count u) k is).1) where
    found_in_range : (t : ℕ → Bool) (a n j : ℕ) → find t (range_with_len a n) ≡ Some j → (a ≤ j) × (j < a + n)
    found_in_range t a zero j h = cc
    found_in_range t a (suc n) j h =
        elim (t a) as (λ b. cond b (Some a) (find t (range_with_len (a + 1) n)) ≡ Some j → (a ≤ j) × (j < a + suc n)) [
          | true ↦ λ e. let same : a ≡ j = cc in (omega arith, omega arith)
          | false ↦ λ e. let rest = found_in_range t (a + 1) n j e in (omega arith, omega arith)
        ] h

  -- the first provider of a port that a pair of layer k provides has a layer of at most k
  pub record HasProvider (r k : ℕ) : Type 0 where
    pub pair : ℕ
    pub layer : ℕ
    pub is : provider_of u r ≡ Some pair
    pub at : layer_of u pair ≡ Some layer
    pub low : layer ≤ k
    pub gives : provides u pair r ≡ true

  pub provider_by : (r y k : ℕ) → layer_of u y ≡ Some k → provides u y r ≡ true → HasProvider r k
  provider_by r y k is gives =
      let f = find_in_layers (λ p. provides u p r) (pair_count u) 0 k y (omega arith) (omega (arith, layer_below y k is)) (among_layer k y is) gives in
      record { pair = f.pair; layer = f.layer; is = f.is; at = in_layer f.layer f.pair f.there; low = f.low; gives = f.passes }

  -- each port that a pair of layer k + 1 requires has a provider of a layer of at most k
  pub provider_at : (p k r : ℕ) → layer_of u p ≡ Some (suc k) → requires u p r ≡ true → HasProvider r k
  provider_at p k r is required =
      let met = (and_parts (list_any (λ o. has (next_of u o) p) (layer_set u k)) (list_all (λ s. list_any (λ y. provides u y s) (layer_set u k)) (required_of u p)) (layer_enabled p k is)).1 in
      let some = some_of (λ y. provides u y r) (layer_set u k) (all_has (λ s. list_any (λ y. provides u y s) (layer_set u k)) (required_of u p) r met required) in
      let low = layer_by some.number k some.there in
      let h = provider_by r some.number low.layer low.is some.passes in
      record { pair = h.pair; layer = h.layer; is = h.is; at = h.at; low = omega (arith, h.low, low.low); gives = h.gives }
