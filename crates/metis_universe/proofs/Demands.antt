-- The test of a port that is met decides it: the bindings of a port that lead to providers are as many as its different providers.
use Rattle.std.proofs.Common.{◌≡◌, ℕ, zero, suc, ◌+◌, ◌<◌, ◌≤◌, Bool, true, false, cond, not, ◌&&◌, ◌||◌, List, [], ◌∷◌, length, map, Option, Some, None, refl, sym, ap, ◌∙◌, subst, nat_eq, arith, inl, inr}
use Rattle.std.specs.Prelude.{◌==◌, IsTrue}
use Rattle.std.specs.List.{AllByRecursion, filter, list_any, position_or_len, slice_index_or}
use Rattle.std.specs.List.Sorted.{IsStrictlySortedBy}
use Rattle.std.specs.Option.{option_map_or}
use Rattle.std.specs.declared.cmp.Ordering.TheVariants.{Less}
use Rattle.std.proofs.lemmas.Bool.{false≢true, both_ways, and_parts, and_from, or_cases, or_left, or_right, eq-eqb, eqb-true, false_from_ne_true, le-leb, leb-true}
use Rattle.std.proofs.lemmas.Bool.Decides.{nat_tests}
use Rattle.metis_universe.specs.Terms.{AreDifferent, Binding, Config, IsConfig, IsMet, IsProvider, Universe, binding_cmp, demand_of, further_of, has, is_met, is_tie, pair_of, provides, required_of, requires}

-- ---- demands

pub demand_one : (u : Universe) (p r : ℕ) → requires u p r ≡ true → 1 ≤ demand_of u p r
demand_one u p r needs =
    let more : ℕ = slice_index_or (further_of u p) (position_or_len (λ s. nat_eq s r) (required_of u p)) 0 in
    subst (λ b. 1 ≤ cond b (1 + more) 0) (sym needs) (omega arith)

pub demand_none : (u : Universe) (p r : ℕ) → requires u p r ≡ false → demand_of u p r ≡ 0
demand_none u p r none =
    ap (λ b. cond b (1 + slice_index_or (further_of u p) (position_or_len (λ s. nat_eq s r) (required_of u p)) 0) 0) none

-- ---- lists of different numbers

-- the list without the number is shorter where the number is in it
shorter : (y : ℕ) (zs : List ℕ) → has zs y ≡ true → length (filter (λ z. not (nat_eq z y)) zs) < length zs
shorter y [] there = absurd (false≢true there)
shorter y (z ∷ zs) there =
    elim (nat_eq z y) as (λ b. nat_eq z y ≡ b → length (cond (not b) (z ∷ filter (λ z. not (nat_eq z y)) zs) (filter (λ z. not (nat_eq z y)) zs)) < suc (length zs)) [
      | true ↦ λ _. let rest = no_longer zs in omega (arith, rest)
      | false ↦ λ other. let rest = shorter y zs (later other there) in omega (arith, rest)
    ] refl where
      no_longer : (zs : List ℕ) → length (filter (λ z. not (nat_eq z y)) zs) ≤ length zs
      no_longer [] = omega arith
      no_longer (x ∷ xs) = elim (nat_eq x y) as (λ b. length (cond (not b) (x ∷ filter (λ z. not (nat_eq z y)) xs) (filter (λ z. not (nat_eq z y)) xs)) ≤ suc (length xs)) [
        | true ↦ let rest = no_longer xs in omega (arith, rest)
        | false ↦ let rest = no_longer xs in omega (arith, rest)
      ]

      later : nat_eq z y ≡ false → (nat_eq z y || has zs y) ≡ true → has zs y ≡ true
      later other h = ap (λ b. b || has zs y) (sym other) ∙ h

still_there : (y x : ℕ) (zs : List ℕ) → nat_eq x y ≡ false → has zs x ≡ true → has (filter (λ z. not (nat_eq z y)) zs) x ≡ true
still_there y x [] other there = absurd (false≢true there)
still_there y x (z ∷ zs) other there =
    elim (nat_eq z y) as (λ b. nat_eq z y ≡ b → has (cond (not b) (z ∷ filter (λ z. not (nat_eq z y)) zs) (filter (λ z. not (nat_eq z y)) zs)) x ≡ true) [
      | true ↦ λ at. elim (or_cases (nat_eq z x) (has zs x) there) [
        | inl here ↦ absurd (both_ways _ other (ap (λ n. nat_eq n y) (sym (eqb-true z x here)) ∙ at))
        | inr later ↦ still_there y x zs other later
      ]
      | false ↦ λ _. elim (or_cases (nat_eq z x) (has zs x) there) [
        | inl here ↦ or_left _ _ here
        | inr later ↦ or_right _ _ (still_there y x zs other later)
      ]
    ] refl

-- different numbers that all stand in a list are no more than the list has
pub no_more : (ys zs : List ℕ) → AreDifferent ys → ((y : ℕ) → has ys y ≡ true → has zs y ≡ true) → length ys ≤ length zs
no_more [] zs different each = omega arith
no_more (y ∷ ys) zs different each =
    let rest = no_more ys (filter (λ z. not (nat_eq z y)) zs) different.1 (λ x there. still_there y x zs
    (false_from_ne_true _ (λ same. both_ways _ different.0 (ap (has ys) (sym (eqb-true x y same)) ∙ there)))
    (each x (or_right (nat_eq y x) (has ys x) there))) in
    let less = shorter y zs (each y (or_left (nat_eq y y) (has ys y) (eq-eqb y y refl))) in
    omega (arith, rest, less)

-- ---- the bindings of a port that pass

module _ (ok : ℕ → Bool) (r z : ℕ) where
  abbrev pub passes : Binding → Bool
  passes b = (b.0 == r) && (b.1 == z) && ok b.2

  -- where they lead
  abbrev pub ends : List Binding → List ℕ
  ends bs = map (λ (b : Binding). b.2) (filter passes bs)

  pub length-ends : (bs : List Binding) → length (ends bs) ≡ length (filter passes bs)
  length-ends bs = by (filter passes bs) where
    by : (xs : List Binding) → length (map (λ (b : Binding). b.2) xs) ≡ length xs
    by [] = refl
    by (x ∷ xs) = ap suc (by xs)

  -- who is among the ends is bound, and passes
  pub end_bound : (y : ℕ) (bs : List Binding) → has (ends bs) y ≡ true → (list_any (is_tie r z y) bs ≡ true) × (ok y ≡ true)
  end_bound y [] h = absurd (false≢true h)
  end_bound y (b ∷ bs) h =
      elim (passes b) as (λ v. passes b ≡ v → has (map (λ (b : Binding). b.2) (cond v (b ∷ filter passes bs) (filter passes bs))) y ≡ true → (list_any (is_tie r z y) (b ∷ bs) ≡ true) × (ok y ≡ true)) [
        | true ↦ λ at there. let parts = and_parts _ _ at in elim (or_cases (nat_eq b.2 y) (has (ends bs) y) there) [
          | inl here ↦ (or_left _ _ (and_from _ _ parts.0 here), ap ok (sym (eqb-true b.2 y here)) ∙ parts.1)
          | inr later ↦ let rest = end_bound y bs later in (or_right _ _ rest.0, rest.1)
        ]
        | false ↦ λ _ later. let rest = end_bound y bs later in (or_right _ _ rest.0, rest.1)
      ] refl h

  pub bound_end : (y : ℕ) (bs : List Binding) → list_any (is_tie r z y) bs ≡ true → ok y ≡ true → has (ends bs) y ≡ true
  bound_end y [] h there = absurd (false≢true h)
  bound_end y (b ∷ bs) h there =
      elim (is_tie r z y b) as (λ v. is_tie r z y b ≡ v → (v || list_any (is_tie r z y) bs) ≡ true → has (ends (b ∷ bs)) y ≡ true) [
        | true ↦ λ at _. let parts = and_parts _ _ at in
            ap (λ v. has (map (λ (b : Binding). b.2) (cond v (b ∷ filter passes bs) (filter passes bs))) y) (and_from _ _ parts.0 (ap ok (eqb-true b.2 y parts.1) ∙ there))
            ∙ or_left _ _ parts.1
        | false ↦ λ _ rest. more (passes b) (bound_end y bs rest there)
      ] refl h where
        more : (v : Bool) → has (ends bs) y ≡ true → has (map (λ (b : Binding). b.2) (cond v (b ∷ filter passes bs) (filter passes bs))) y ≡ true
        more true h = or_right _ _ h
        more false h = h

  -- a later binding is another
  not_again : (b : Binding) (bs : List Binding) → AllByRecursion (λ x. binding_cmp b x ≡ Less) bs → list_any (is_tie b.0 b.1 b.2) bs ≡ false
  not_again b [] h = refl
  not_again b (x ∷ bs) h = λ i. apart b.0 b.1 b.2 x.0 x.1 x.2 h.0 i || not_again b bs h.1 i where
    apart : (a b c x y z : ℕ) → binding_cmp (a, b, c) (x, y, z) ≡ Less → (nat_eq x a && nat_eq y b && nat_eq z c) ≡ false
    apart a b c x y z h = grind (arith, nat_tests)

  pub ends_differ : (bs : List Binding) → IsStrictlySortedBy binding_cmp bs → AreDifferent (ends bs)
  unfolding IsStrictlySortedBy
  ends_differ [] s = tt
  ends_differ (b ∷ bs) s =
      elim (passes b) as (λ v. passes b ≡ v → AreDifferent (map (λ (b : Binding). b.2) (cond v (b ∷ filter passes bs) (filter passes bs)))) [
        | true ↦ λ at. let front = and_parts _ _ (and_parts _ _ at).0 in (
          false_from_ne_true _ (λ again. both_ways _ (not_again b bs s.0)
              ((λ i. list_any (is_tie (eqb-true b.0 r front.0 i) (eqb-true b.1 z front.1 i) b.2) bs) ∙ (end_bound b.2 bs again).0)),
          ends_differ bs s.1,
        )
        | false ↦ λ _. ends_differ bs s.1
      ] refl

  -- different instances, each bound and passing, are no more than the bindings that pass
  pub many_bound : (bs : List Binding) (ys : List ℕ) (n : ℕ) → AreDifferent ys → n ≤ length ys → ((y : ℕ) → has ys y ≡ true → (list_any (is_tie r z y) bs ≡ true) × (ok y ≡ true)) → n ≤ length (filter passes bs)
  many_bound bs ys n different enough each =
      omega (arith, enough, length-ends bs, no_more ys (ends bs) different (λ y there. let x = each y there in bound_end y bs x.0 x.1))

-- ---- who meets

pub some_provides : (t : ℕ → Bool) (o : Option ℕ) → option_map_or t o false ≡ true → (q : ℕ) × (o ≡ Some q) × (t q ≡ true)
some_provides t None h = absurd (false≢true h)
some_provides t (Some q) h = (q, refl, h)

abbrev pub gives : Universe → ℕ → Option ℕ → Bool
gives u r o = option_map_or (λ q. provides u q r) o false

pub met : (u : Universe) (c : Config) → IsConfig c → (z r n : ℕ) → is_met u c z r n ≡ true → IsMet u c z r n
met u c k z r n h =
    let ok : ℕ → Bool = λ y. gives u r (pair_of c y) in
    record {
      providers = ends ok r z c.bindings;
      different = ends_differ ok r z c.bindings k.in_order;
      enough = omega (arith, leb-true n _ h, length-ends ok r z c.bindings);
      each = λ y there.
          let bound = end_bound ok r z y c.bindings there in
          let given = some_provides (λ q. provides u q r) (pair_of c y) bound.1 in
          record { pair = given.0; bound = bound.0; there = given.1; gives = given.2 };
    }

pub provider_gives : (u : Universe) (c : Config) (z r y : ℕ) → IsProvider u c z r y → gives u r (pair_of c y) ≡ true
provider_gives u c z r y x = ap (gives u r) x.there ∙ x.gives

pub is_met-true : (u : Universe) (c : Config) (z r n : ℕ) → IsMet u c z r n → is_met u c z r n ≡ true
is_met-true u c z r n m =
    le-leb n _ (many_bound (λ y. gives u r (pair_of c y)) r z c.bindings m.providers n m.different m.enough
    (λ y there. let x = m.each y there in (x.bound, provider_gives u c z r y x)))

-- what keeps each provider keeps what is met
pub IsMet-map : (u : Universe) (c d : Config) (z r n : ℕ) → ((y : ℕ) → IsProvider u c z r y → IsProvider u d z r y) → IsMet u c z r n → IsMet u d z r n
IsMet-map u c d z r n keeps m = record { providers = m.providers; different = m.different; enough = m.enough; each = λ y there. keeps y (m.each y there) }

-- one provider is enough for one
pub IsMet-one : (u : Universe) (c : Config) (z r y : ℕ) → IsProvider u c z r y → IsMet u c z r 1
IsMet-one u c z r y x = record {
  providers = y ∷ [];
  different = (refl, tt);
  enough = omega arith;
  each = λ w there. subst (IsProvider u c z r) (eqb-true y w (only (nat_eq y w) there)) x;
} where
  only : (b : Bool) → (b || false) ≡ true → b ≡ true
  only true h = refl
  only false h = h

-- what is required and met has a provider
pub one_provider : (u : Universe) (c : Config) (z p r : ℕ) → requires u p r ≡ true → IsMet u c z r (demand_of u p r) → (y : ℕ) × IsProvider u c z r y
one_provider u c z p r needs m = first m.providers (omega (arith, m.enough, demand_one u p r needs)) m.each where
  first : (ys : List ℕ) → 1 ≤ length ys → ((y : ℕ) → IsTrue (has ys y) → IsProvider u c z r y) → (y : ℕ) × IsProvider u c z r y
  first [] some each = absurd (omega arith)
  first (y ∷ ys) some each = (y, each y (or_left _ _ (eq-eqb y y refl)))

-- ---- slots

-- n different instances, one for each number from 1 to n, are enough: R says which instance is of which number, and no instance is of two
module _ (u : Universe) (c : Config) (z r : ℕ) (R : ℕ → ℕ → Type 0) where
  -- y is of some number up to m
  record IsOfSlot (m y : ℕ) : Type 0 where
    number : ℕ
    low : number ≤ m
    is : R number y
    provider : IsProvider u c z r y

  record AreSlots (m : ℕ) : Type 0 where
    providers : List ℕ
    count : length providers ≡ m
    different : AreDifferent providers
    each : (y : ℕ) → has providers y ≡ true → IsOfSlot m y

  module _ (n : ℕ) (filled : (k : ℕ) → 1 ≤ k → k ≤ n → (y : ℕ) × R k y × IsProvider u c z r y) (apart : (j k y : ℕ) → R j y → R k y → j ≡ k) where
    first_slots : (m : ℕ) → m ≤ n → AreSlots m
    first_slots zero few = record { providers = []; count = refl; different = tt; each = λ y none. absurd (false≢true none) }
    first_slots (suc m) few =
        let rest = first_slots m (omega arith) in
        let slot = filled (suc m) (omega arith) few in
        record {
          providers = slot.0 ∷ rest.providers;
          count = omega (arith, rest.count);
          different = (
            false_from_ne_true _ (λ again. let x = rest.each slot.0 again in past m x.number x.low (apart x.number (suc m) slot.0 x.is slot.1)),
            rest.different,
          );
          each = λ y there. elim (or_cases (nat_eq slot.0 y) (has rest.providers y) there) [
            | inl here ↦ subst (IsOfSlot (suc m)) (eqb-true slot.0 y here) (record { number = suc m; low = omega arith; is = slot.1; provider = slot.2 })
            | inr old ↦ let x = rest.each y old in record { number = x.number; low = omega (arith, x.low); is = x.is; provider = x.provider }
          ];
        } where
          past : (m k : ℕ) → k ≤ m → k ≡ suc m → ⊥
          past m k low same = omega arith

    pub IsMet-slots : IsMet u c z r n
    IsMet-slots = let all = first_slots n (omega arith) in record {
      providers = all.providers;
      different = all.different;
      enough = omega (arith, all.count);
      each = λ y there. (all.each y there).provider;
    }
