-- Lists of different numbers, and how many instances serve a goal.
use Rattle.std.proofs.Common.{◌≡◌, ℕ, suc, ◌+◌, ◌<◌, ◌≤◌, Bool, true, false, cond, List, [], ◌∷◌, ◌++◌, length, map, Some, None, refl, sym, ap, ◌∙◌, subst, arith, nat_eq, inl, inr}
use Rattle.std.specs.List.{count_by, filter, slice_get}
use Rattle.std.specs.Map.{keys_of, lookup}
use Rattle.std.proofs.lemmas.Bool.{and_from, and_parts, both_ways, eq-eqb, eqb-true, false_from_ne_true, false≢true, or_cases, or_left, or_right}
use Rattle.std.proofs.lemmas.List.Sums.{length-filter, sum_by-append}
use Rattle.std.proofs.lemmas.Map.Entries.{length-keys_of}
use Rattle.metis_universe.proofs.Different.{sorted_differ}
use Rattle.metis_ids.proofs.Lists.{has-filter, list_any-map, some_member}
use Rattle.metis_ids.specs.declared.goals.Goal.{Goal}
use Rattle.metis_rollout.specs.Terms.{members}
use Rattle.metis_universe.proofs.Demands.{no_more}
use Rattle.metis_universe.proofs.Served.{count-cons}
use Rattle.metis_universe.specs.Terms.{AreDifferent, Config, IsConfig, Universe, has, pair_of, serves, serving}

pub by_case : (b : Bool) (P : Type 0) → (b ≡ true → P) → (b ≡ false → P) → P
by_case true P t f = t refl
by_case false P t f = f refl

-- ---- counts

pub count-append : {X : Type 0} (t : X → Bool) (xs ys : List X) → count_by t (xs ++ ys) ≡ count_by t xs + count_by t ys
count-append t xs ys = sum_by-append (λ x. cond (t x) 1 0) xs ys

pub count-push : {X : Type 0} (t : X → Bool) (xs : List X) (x : X) → count_by t (xs ++ x ∷ []) ≡ count_by t xs + cond (t x) 1 0
count-push t xs x = let one : count_by t (x ∷ []) ≡ cond (t x) 1 0 + 0 = count-cons t x [] in omega (arith, count-append t xs (x ∷ []), one)

-- ---- different numbers

pub filter_differs : (t : ℕ → Bool) (xs : List ℕ) → AreDifferent xs → AreDifferent (filter t xs)
filter_differs t [] differ = tt
filter_differs t (x ∷ xs) differ = elim (t x) as (λ b. AreDifferent (cond b (x ∷ filter t xs) (filter t xs))) [
  | true ↦ (false_from_ne_true _ (λ again. both_ways (has xs x) differ.0 (and_parts (t x) (has xs x) (sym (has-filter t x xs) ∙ again)).1), filter_differs t xs differ.1)
  | false ↦ filter_differs t xs differ.1
]

-- what is in a list under names is there under the name of one of them
pub has_named : (f : ℕ → ℕ) (xs : List ℕ) (v : ℕ) → has (map f xs) v ≡ true → (x : ℕ) × (has xs x ≡ true) × (f x ≡ v)
has_named f xs v h =
    let by = some_member (λ x. nat_eq (f x) v) xs (sym (list_any-map (λ x. nat_eq x v) f xs) ∙ h) in
    (by.0, by.1, eqb-true (f by.0) v by.2)

pub named_differ : (f : ℕ → ℕ) (xs : List ℕ) → AreDifferent xs → ((x y : ℕ) → has xs x ≡ true → has xs y ≡ true → f x ≡ f y → x ≡ y) → AreDifferent (map f xs)
named_differ f [] differ apart = tt
named_differ f (x ∷ xs) differ apart = (
  false_from_ne_true _ (λ again.
      let by = has_named f xs (f x) again in
      let same : by.0 ≡ x = apart by.0 x (or_right (nat_eq x by.0) (has xs by.0) by.1) (or_left (nat_eq x x) (has xs x) (eq-eqb x x refl)) by.2 in
      both_ways (has xs x) differ.0 (subst (λ y. has xs y ≡ true) same by.1)),
  named_differ f xs differ.1 (λ y z one two. apart y z (or_right (nat_eq x y) (has xs y) one) (or_right (nat_eq x z) (has xs z) two)),
)

-- different numbers that all stand in a list and pass there are no more than what passes
pub passing_more : (t : ℕ → Bool) (xs ys : List ℕ) → AreDifferent xs → ((x : ℕ) → has xs x ≡ true → (t x ≡ true) × (has ys x ≡ true)) → length xs ≤ count_by t ys
passing_more t xs ys differ each =
    let few = no_more xs (filter t ys) differ (λ x h. let both = each x h in has-filter t x ys ∙ and_from (t x) (has ys x) both.0 both.1) in
    omega (arith, few, length-filter t ys)

-- ---- the places at which a list passes, from n on

abbrev pub places : (ℕ → Bool) → ℕ → List ℕ → List ℕ
places t n [] = []
places t n (p ∷ ps) = cond (t p) (n ∷ places t (suc n) ps) (places t (suc n) ps)

pub length-places : (t : ℕ → Bool) (n : ℕ) (ps : List ℕ) → length (places t n ps) ≡ count_by t ps
length-places t n [] = refl
length-places t n (p ∷ ps) = by (t p) (count-cons t p ps) (length-places t (suc n) ps) where
  by : (b : Bool) → count_by t (p ∷ ps) ≡ cond b 1 0 + count_by t ps → length (places t (suc n) ps) ≡ count_by t ps → length (cond b (n ∷ places t (suc n) ps) (places t (suc n) ps)) ≡ count_by t (p ∷ ps)
  by true steps rest = omega (arith, steps, rest)
  by false steps rest = omega (arith, steps, rest)

-- the list has an element there, which passes
pub record IsPlaceOf (t : ℕ → Bool) (n k : ℕ) (ps : List ℕ) : Type 0 where
  pub after : ℕ
  pub element : ℕ
  pub is : k ≡ n + after
  pub low : after < length ps
  pub there : slice_get ps after ≡ Some element
  pub passes : t element ≡ true

pub at_places : (t : ℕ → Bool) (n k : ℕ) (ps : List ℕ) → has (places t n ps) k ≡ true → IsPlaceOf t n k ps
at_places t n k [] h = absurd (false≢true h)
at_places t n k (p ∷ ps) h = elim (t p) as (λ b. t p ≡ b → has (cond b (n ∷ places t (suc n) ps) (places t (suc n) ps)) k ≡ true → IsPlaceOf t n k (p ∷ ps)) [
  | true ↦ λ passes h. elim (or_cases (nat_eq n k) (has (places t (suc n) ps) k) h) [
    | inl now ↦ let same = eqb-true n k now in record { after = 0; element = p; is = omega (arith, same); low = omega arith; there = refl; passes = passes }
    | inr later ↦ next (at_places t (suc n) k ps later)
  ]
  | false ↦ λ _ later. next (at_places t (suc n) k ps later)
] refl h where
  next : IsPlaceOf t (suc n) k ps → IsPlaceOf t n k (p ∷ ps)
  next r = record { after = suc r.after; element = r.element; is = omega (arith, r.is); low = omega (arith, r.low); there = r.there; passes = r.passes }

pub places_differ : (t : ℕ → Bool) (n : ℕ) (ps : List ℕ) → AreDifferent (places t n ps)
places_differ t n [] = tt
places_differ t n (p ∷ ps) = elim (t p) as (λ b. AreDifferent (cond b (n ∷ places t (suc n) ps) (places t (suc n) ps))) [
  | true ↦ (false_from_ne_true _ (λ again. let at = at_places t (suc n) n ps again in omega (arith, at.is)), places_differ t (suc n) ps)
  | false ↦ places_differ t (suc n) ps
]

-- ---- instances

pub members_differ : (c : Config) → IsConfig c → AreDifferent (members c)
members_differ c k = sorted_differ (members c) k.ascending

-- those that pass stand under their keys
listed : (t : ℕ → Bool) (es : List (ℕ × ℕ)) (z p : ℕ) → lookup (nat_eq z) es ≡ Some p → t p ≡ true → has (keys_of (filter (λ e. t e.1) es)) z ≡ true
listed t [] z p there passes = absurd (none≢some p there) where
  none≢some : (p : ℕ) → None ≡ Some p → ⊥
  none≢some p h = cc
listed t (e ∷ es) z p there passes = elim (nat_eq z e.0) as (λ b. nat_eq z e.0 ≡ b → cond b (Some e.1) (lookup (nat_eq z) es) ≡ Some p → has (keys_of (cond (t e.1) (e ∷ filter (λ e. t e.1) es) (filter (λ e. t e.1) es))) z ≡ true) [
  | true ↦ λ is found. first (t e.1) (ap t (same_some e.1 p found) ∙ passes) (eq-eqb e.0 z (sym (eqb-true z e.0 is)))
  | false ↦ λ _ later. more (t e.1) (listed t es z p later passes)
] refl there where
  same_some : (a b : ℕ) → Some a ≡ Some b → a ≡ b
  same_some a b h = cc

  first : (b : Bool) → b ≡ true → nat_eq e.0 z ≡ true → has (keys_of (cond b (e ∷ filter (λ e. t e.1) es) (filter (λ e. t e.1) es))) z ≡ true
  first true _ here = or_left (nat_eq e.0 z) _ here
  first false wrong here = absurd (false≢true wrong)

  more : (b : Bool) → has (keys_of (filter (λ e. t e.1) es)) z ≡ true → has (keys_of (cond b (e ∷ filter (λ e. t e.1) es) (filter (λ e. t e.1) es))) z ≡ true
  more true rest = or_right (nat_eq e.0 z) _ rest
  more false rest = rest

-- different instances that serve the goal are no more than the configuration has
pub serving_more : (u : Universe) (c : Config) (g : Goal) (xs : List ℕ) → AreDifferent xs
    → ((x : ℕ) → has xs x ≡ true → (p : ℕ) × (pair_of c x ≡ Some p) × (serves u p g ≡ true)) → length xs ≤ serving u c g
serving_more u c g xs differ each =
    let t : ℕ → Bool = λ p. serves u p g in
    let few = no_more xs (keys_of (filter (λ e. t e.1) c.instances)) differ (λ x h. let by = each x h in listed t c.instances x by.0 by.1 by.2) in
    omega (arith, few, length-keys_of (filter (λ (e : ℕ × ℕ). t e.1) c.instances), length-filter (λ (e : ℕ × ℕ). t e.1) c.instances)
