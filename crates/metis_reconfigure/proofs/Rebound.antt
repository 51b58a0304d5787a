-- The bindings of those that may be bound anew.
use Rattle.std.proofs.Common.{◌≡◌, ℕ, zero, suc, ◌+◌, ◌<◌, Bool, true, false, not, ◌&&◌, List, [], ◌∷◌, ◌++◌, Option, Some, None, take, length, map, flat_map, refl, sym, ap, ◌∙◌, subst, arith, nat_eq, inl, inr}
use Rattle.std.specs.Prelude.{IsSomeAnd, IsTrue}
use Rattle.std.specs.List.{AllByRecursion, filter, range_with_len, slice_index_or}
use Rattle.std.specs.Option.{option_map_or}
use Rattle.std.proofs.lemmas.Bool.{and_from, and_parts, both_ways, eq-eqb, eqb-true, false_from_ne_true, false≢true, not-true, or_cases, or_left, or_right}
use Rattle.std.proofs.lemmas.List.{map-append}
use Rattle.metis_ids.specs.declared.actions.Action.{Action}
use Rattle.metis_ids.specs.declared.actions.Action.TheVariants.{Bind}
use Rattle.metis_ids.proofs.Lists.{any_at, each_weaker, has-append, has-filter, has_take, in_range, list_any-flat_map, some_member}
use Rattle.metis_layers.proofs.SlotLists.{required_differ}
use Rattle.metis_layers.proofs.Going.{type_provides-own, type_requires-own}
use Rattle.metis_universe.proofs.Slots.{mapped_from}
use Rattle.metis_universe.specs.Terms.{AreDifferent, Binding, Config, IsConfig, IsUniverse, Universe, has, is_bound, is_tie, pair_of, provides, required_of, requires, type_of, type_provides, type_requires}
use Rattle.metis_completion.proofs.Binding.{Fits}
use Rattle.metis_completion.proofs.Front.{append_differs, front_differs}
use Rattle.metis_universe.proofs.Different.{rising_differ}
use Rattle.metis_rollout.proofs.Quiet.{all_among, is_in}
use Rattle.metis_rollout.specs.Terms.{bind, members}
use Rattle.metis_wishes.specs.Terms.{rebound}
use Rattle.metis_wishes.specs.declared.wish.Wish.{Wish}
use Rattle.metis_reconfigure.specs.Terms.{AreLeaving, candidates, fresh_givers, given, lack, rebinds, rebinds_at, rebinds_of, rebound_in}
use Rattle.metis_reconfigure.proofs.Binds.{AreApart, AreApart-joined, AreApart-one}
use Rattle.metis_reconfigure.proofs.Lists.{filter_differs, members_differ, named_differ}
use Rattle.metis_reconfigure.proofs.Given.{given_ones, is_given, is_settled}

-- ---- lists of different numbers

range_differs : (a n : ℕ) → AreDifferent (range_with_len a n)
range_differs a zero = tt
range_differs a (suc n) = (false_from_ne_true _ (λ again. let low = (in_range (a + 1) n a again).0 in omega arith), range_differs (a + 1) n)

-- ---- the binds as bindings

binds_joined : {X : Type 0} (f : X → List Action) (g : X → List Binding) → ((x : X) → f x ≡ map bind (g x)) → (xs : List X) → flat_map f xs ≡ map bind (flat_map g xs)
binds_joined f g same [] = refl
binds_joined f g same (x ∷ xs) = (λ i. same x i ++ binds_joined f g same xs i) ∙ sym (map-append bind (g x) (flat_map g xs))

binds_to : (r z : ℕ) (ys : List ℕ) → map (λ y. Bind r z y) ys ≡ map bind (map (λ y. (r, z, y)) ys)
binds_to r z [] = refl
binds_to r z (y ∷ ys) = ap (λ l. Bind r z y ∷ l) (binds_to r z ys)

in_at : (s x r z y : ℕ) (ys : List ℕ) → is_in (map (λ w. (s, x, w)) ys) r z y ≡ true → (s ≡ r) × (x ≡ z) × (has ys y ≡ true)
in_at s x r z y [] h = absurd (false≢true h)
in_at s x r z y (w ∷ ys) h = elim (or_cases (is_tie r z y (s, x, w)) (is_in (map (λ v. (s, x, v)) ys) r z y) h) [
  | inl now ↦
      let both = and_parts (nat_eq s r && nat_eq x z) (nat_eq w y) now in
      let front = and_parts (nat_eq s r) (nat_eq x z) both.0 in
      (eqb-true s r front.0, eqb-true x z front.1, or_left (nat_eq w y) _ both.1)
  | inr later ↦ let rest = in_at s x r z y ys later in (rest.0, rest.1, or_right (nat_eq w y) _ rest.2)
]

at_in : (r z y : ℕ) (ys : List ℕ) → has ys y ≡ true → is_in (map (λ w. (r, z, w)) ys) r z y ≡ true
at_in r z y [] h = absurd (false≢true h)
at_in r z y (w ∷ ys) h = elim (or_cases (nat_eq w y) (has ys y) h) [
  | inl now ↦ or_left (is_tie r z y (r, z, w)) _ (and_from _ _ (and_from _ _ (eq-eqb r r refl) (eq-eqb z z refl)) now)
  | inr later ↦ or_right (is_tie r z y (r, z, w)) _ (at_in r z y ys later)
]

module _ (u : Universe) (wishes : List Wish) (c : Config) (leaving ts : List ℕ) (name : ℕ → ℕ) where
  -- the providers to which the instance is bound at the port
  abbrev pub taken : ℕ → ℕ → List ℕ
  taken z r = take (lack u c leaving z r) (candidates u c leaving ts name z r)

  abbrev pub ties_at : ℕ → ℕ → List Binding
  ties_at z r = map (λ y. (r, z, y)) (taken z r)

  abbrev pub ties_in : ℕ → ℕ → List Binding
  ties_in z p = flat_map (ties_at z) (required_of u p)

  abbrev pub ties_of : ℕ → List Binding
  ties_of z = option_map_or (ties_in z) (pair_of c z) []

  abbrev pub rebind_ties : List Binding
  rebind_ties = flat_map ties_of (rebound_in wishes c)

  pub rebinds_are : rebinds u wishes c leaving ts name ≡ map bind rebind_ties
  rebinds_are = binds_joined (rebinds_of u c leaving ts name) ties_of one (rebound_in wishes c) where
    one : (z : ℕ) → rebinds_of u c leaving ts name z ≡ map bind (ties_of z)
    one z = by (pair_of c z) where
      by : (o : Option ℕ) → option_map_or (λ p. flat_map (rebinds_at u c leaving ts name z) (required_of u p)) o [] ≡ map bind (option_map_or (ties_in z) o [])
      by None = refl
      by (Some p) = binds_joined (rebinds_at u c leaving ts name z) (ties_at z) (λ r. binds_to r z (taken z r)) (required_of u p)

  -- ---- which these are

  pub record IsRebind (r z y : ℕ) : Type 0 where
    pub asked : has (rebound_in wishes c) z ≡ true
    pub pair : ℕ
    pub stands : pair_of c z ≡ Some pair
    pub needed : requires u pair r ≡ true
    pub among : has (taken z r) y ≡ true

  pub in_ties_in : (x p r z y : ℕ) → is_in (ties_in x p) r z y ≡ true → (x ≡ z) × (requires u p r ≡ true) × (has (taken x r) y ≡ true)
  in_ties_in x p r z y h =
      let from = some_member (λ s. is_in (ties_at x s) r z y) (required_of u p) (sym (list_any-flat_map (is_tie r z y) (ties_at x) (required_of u p)) ∙ h) in
      let at = in_at from.0 x r z y (taken x from.0) from.2 in
      (at.1, subst (λ s. has (required_of u p) s ≡ true) at.0 from.1, subst (λ s. has (taken x s) y ≡ true) at.0 at.2)

  in_ties_of : (x r z y : ℕ) → is_in (ties_of x) r z y ≡ true → (p : ℕ) × (pair_of c x ≡ Some p) × (x ≡ z) × (requires u p r ≡ true) × (has (taken x r) y ≡ true)
  in_ties_of x r z y h = by (pair_of c x) refl h where
    by : (o : Option ℕ) → pair_of c x ≡ o → is_in (option_map_or (ties_in x) o []) r z y ≡ true → (p : ℕ) × (pair_of c x ≡ Some p) × (x ≡ z) × (requires u p r ≡ true) × (has (taken x r) y ≡ true)
    by None is h = absurd (false≢true h)
    by (Some p) is h = let at = in_ties_in x p r z y h in (p, is, at.0, at.1, at.2)

  pub in_rebinds : (r z y : ℕ) → is_in rebind_ties r z y ≡ true → IsRebind r z y
  in_rebinds r z y h =
      let from = some_member (λ x. is_in (ties_of x) r z y) (rebound_in wishes c) (sym (list_any-flat_map (is_tie r z y) ties_of (rebound_in wishes c)) ∙ h) in
      let at = in_ties_of from.0 r z y from.2 in
      let same = at.2 in
      record {
        asked = subst (λ x. has (rebound_in wishes c) x ≡ true) same from.1;
        pair = at.0;
        stands = subst (λ x. pair_of c x ≡ Some at.0) same at.1;
        needed = at.3;
        among = subst (λ x. has (taken x r) y ≡ true) same at.4;
      }

  pub rebinds_in : (r z y : ℕ) → IsRebind r z y → is_in rebind_ties r z y ≡ true
  rebinds_in r z y b =
      list_any-flat_map (is_tie r z y) ties_of (rebound_in wishes c)
      ∙ any_at (λ x. is_in (ties_of x) r z y) z (rebound_in wishes c) b.asked
      (ap (λ o. is_in (option_map_or (ties_in z) o []) r z y) b.stands
      ∙ list_any-flat_map (is_tie r z y) (ties_at z) (required_of u b.pair)
      ∙ any_at (λ s. is_in (ties_at z s) r z y) r (required_of u b.pair) b.needed (at_in r z y (taken z r) b.among))

  -- ---- they differ, and each fits

  -- the targets' instances are others than those of c, and stand in d beside these
  pub record AreTargets (d : Config) : Type 0 where
    pub apart : (n m : ℕ) → n < length ts → m < length ts → name n ≡ name m → n ≡ m
    pub away : (n : ℕ) → n < length ts → has (members c) (name n) ≡ false
    pub stand : (n : ℕ) → n < length ts → pair_of d (name n) ≡ Some (slice_index_or ts n 0)
    pub old_pairs : (z : ℕ) → has (members c) z ≡ true → pair_of d z ≡ pair_of c z
    pub old_bindings : (r z y : ℕ) → has (members c) z ≡ true → is_bound d r z y ≡ is_bound c r z y

  -- a target's instance that provides the port
  pub record IsFreshGiver (r y : ℕ) : Type 0 where
    pub number : ℕ
    pub low : number < length ts
    pub named : name number ≡ y
    pub gives_it : provides u (slice_index_or ts number 0) r ≡ true

  pub fresh_giver : (r y : ℕ) → has (fresh_givers u ts name r) y ≡ true → IsFreshGiver r y
  fresh_giver r y h =
      let test : ℕ → Bool = λ n. provides u (slice_index_or ts n 0) r in
      let from = mapped_from name (filter test (range_with_len 0 (length ts))) y h in
      let parts = and_parts (test from.0) (has (range_with_len 0 (length ts)) from.0) (sym (has-filter test from.0 (range_with_len 0 (length ts))) ∙ from.1) in
      record { number = from.0; low = omega (arith, (in_range 0 (length ts) from.0 parts.1).1); named = from.2; gives_it = parts.0 }

  module _ (k : IsConfig c) (leave : AreLeaving u wishes c leaving) (d : Config) (t : AreTargets d) where
    is_member : (r y : ℕ) → has (given u c leaving r) y ≡ true → has (members c) y ≡ true
    is_member r y h = (is_settled u wishes c k leaving leave y (is_given u wishes c k leaving leave r y h).1).1

    abbrev pub givers : ℕ → List ℕ
    givers r = given u c leaving r ++ fresh_givers u ts name r

    pub fresh_away : (r y : ℕ) → has (fresh_givers u ts name r) y ≡ true → has (members c) y ≡ false
    fresh_away r y h = let f = fresh_giver r y h in subst (λ x. has (members c) x ≡ false) f.named (t.away f.number f.low)

    pub givers_differ : (r : ℕ) → AreDifferent (givers r)
    givers_differ r =
        let test : ℕ → Bool = λ n. provides u (slice_index_or ts n 0) r in
        append_differs (given u c leaving r) (fresh_givers u ts name r)
        (rising_differ (given u c leaving r) ((given_ones u wishes c k leaving leave).ascend r))
        (named_differ name (filter test (range_with_len 0 (length ts))) (filter_differs test (range_with_len 0 (length ts)) (range_differs 0 (length ts)))
        (λ n m h g. t.apart n m (low n h) (low m g)))
        (λ y h. false_from_ne_true _ (λ g. both_ways (has (members c) y) (fresh_away r y g) (is_member r y h))) where
          low : (n : ℕ) → has (filter (λ m. provides u (slice_index_or ts m 0) r) (range_with_len 0 (length ts))) n ≡ true → n < length ts
          low n h = omega (arith, (in_range 0 (length ts) n (and_parts (provides u (slice_index_or ts n 0) r) _ (sym (has-filter (λ m. provides u (slice_index_or ts m 0) r) n (range_with_len 0 (length ts))) ∙ h)).1).1)

    pub taken_differ : (z r : ℕ) → AreDifferent (taken z r)
    taken_differ z r = front_differs (lack u c leaving z r) (candidates u c leaving ts name z r) (filter_differs (λ y. not (nat_eq y z) && not (is_bound c r z y)) (givers r) (givers_differ r))

    pub rebound_differ : AreDifferent (rebound_in wishes c)
    rebound_differ = filter_differs (has (rebound wishes)) (members c) (members_differ c k)

    pub rebinds_apart : IsUniverse u → AreApart rebind_ties
    rebinds_apart is = AreApart-joined (λ b. b.1) ties_of (λ x r z y h. sym (in_ties_of x r z y h).2) one (rebound_in wishes c) rebound_differ where
      one : (z : ℕ) → AreApart (ties_of z)
      one z = by (pair_of c z) where
        by : (o : Option ℕ) → AreApart (option_map_or (ties_in z) o [])
        by None = tt
        by (Some p) = AreApart-joined (λ b. b.0) (ties_at z) (λ s r x y h. sym (in_at s z r x y (taken z s) h).0) (λ r. AreApart-one r z (taken z r) (taken_differ z r)) (required_of u p) (required_differ u is p)

    -- the provider stands in a pair that provides the port
    pub record IsGiver (r y : ℕ) : Type 0 where
      pub pair : ℕ
      pub stands : pair_of d y ≡ Some pair
      pub gives_it : provides u pair r ≡ true

    pub giver : (r y : ℕ) → has (givers r) y ≡ true → IsGiver r y
    giver r y h = elim (or_cases (has (given u c leaving r) y) (has (fresh_givers u ts name r) y) (sym (has-append (given u c leaving r) (fresh_givers u ts name r) y) ∙ h)) [
      | inl old ↦
          let at = (given_ones u wishes c k leaving leave).stand r y old in
          record { pair = at.0; stands = t.old_pairs y (is_member r y old) ∙ at.1; gives_it = at.2 }
      | inr fresh ↦
          let f = fresh_giver r y fresh in
          record { pair = slice_index_or ts f.number 0; stands = ap (pair_of d) (sym f.named) ∙ t.stand f.number f.low; gives_it = f.gives_it }
    ]

    pub is_candidate : (z r y : ℕ) → has (taken z r) y ≡ true → (has (givers r) y ≡ true) × (nat_eq y z ≡ false) × (is_bound c r z y ≡ false)
    is_candidate z r y h =
        let test : ℕ → Bool = λ x. not (nat_eq x z) && not (is_bound c r z x) in
        let parts = and_parts (test y) (has (givers r) y) (sym (has-filter test y (givers r)) ∙ has_take (candidates u c leaving ts name z r) (lack u c leaving z r) y h) in
        let both = and_parts (not (nat_eq y z)) (not (is_bound c r z y)) parts.0 in
        (parts.1, not-true _ both.0, not-true _ both.1)

    pub asked_there : (z : ℕ) → has (rebound_in wishes c) z ≡ true → has (members c) z ≡ true
    asked_there z h = (and_parts (has (rebound wishes) z) (has (members c) z) (sym (has-filter (has (rebound wishes)) z (members c)) ∙ h)).1

    rebind_fits : (b : Binding) → IsRebind b.0 b.1 b.2 → Fits u d b
    rebind_fits b is =
        let y_is = is_candidate b.1 b.0 b.2 is.among in
        let g = giver b.0 b.2 y_is.0 in
        let z_there = asked_there b.1 is.asked in
        let stands = t.old_pairs b.1 z_there ∙ is.stands in
        record {
          can = record {
            apart = λ same. both_ways _ y_is.1 (eq-eqb b.2 b.1 (sym same));
            requirer = at_pair (λ p. IsTrue (type_requires u (type_of u p) b.0)) (pair_of d b.1) is.pair stands (type_requires-own u is.pair b.0 is.needed);
            provider = at_pair (λ p. IsTrue (type_provides u (type_of u p) b.0)) (pair_of d b.2) g.pair g.stands (type_provides-own u g.pair b.0 g.gives_it);
            unbound = t.old_bindings b.0 b.1 b.2 z_there ∙ y_is.2;
          };
          gives = ap (λ o. option_map_or (λ q. provides u q b.0) o false) g.stands ∙ g.gives_it;
        } where
          at_pair : (P : ℕ → Type 0) (o : Option ℕ) (p : ℕ) → o ≡ Some p → P p → IsSomeAnd o P
          at_pair P o p e h = subst (λ x. IsSomeAnd x P) (sym e) h

    pub rebinds_fit : AllByRecursion (Fits u d) rebind_ties
    rebinds_fit = each_weaker (λ b. is_in rebind_ties b.0 b.1 b.2 ≡ true) (Fits u d) rebind_ties (λ b h. rebind_fits b (in_rebinds b.0 b.1 b.2 h)) (all_among rebind_ties rebind_ties (λ t h. h))
