-- The first unmet port, instance by instance and then port by port, is the least, and where there is none the configuration is correct.
use Rattle.std.proofs.Common.{◌≡◌, ℕ, ◌<◌, ◌≤◌, Bool, true, false, cond, not, ◌&&◌, leb, length, List, [], ◌∷◌, Option, Some, None, refl, ap, sym, ◌∙◌, subst, nat_eq, inl, inr, arith}
use Rattle.std.specs.Prelude.{option_map, ◌==◌}
use Rattle.std.specs.List.{find, AllByRecursion}
use Rattle.std.specs.List.Sorted.{IsStrictlySortedBy}
use Rattle.std.specs.Option.{option_map_or, option_or}
use Rattle.std.specs.Map.{lookup, keys_of}
use Rattle.std.specs.Ordering.{nat_cmp}
use Rattle.std.specs.declared.cmp.Ordering.TheVariants.{Less}
use Rattle.std.proofs.lemmas.Bool.{false≢true, both_ways, and_parts, and_from, or_cases, or_left, or_right, eq-eqb, eqb-true, ne_eqb, cases_lt, false_from_ne_true}
use Rattle.std.proofs.lemmas.Bool.Decides.{nat_tests}
use Rattle.std.proofs.lemmas.List.{get_or_past}
use Rattle.std.proofs.lemmas.Option.{none-some}
use Rattle.metis_ids.proofs.Finding.{not_found}
use Rattle.metis_universe.specs.Terms.{Config, Correct, IsConfig, IsMet, IsUniverse, Universe, demand_of, has, is_met, is_tie, no_pair, pair_count, pair_of, provides, put, remove, required_of, requires, untie}
use Rattle.metis_universe.proofs.Edits.{pair_of-put, pair_of-remove, is_bound-untie}
use Rattle.metis_universe.proofs.Kept.{IsConfig-put, IsConfig-remove, IsConfig-untie}
use Rattle.metis_universe.proofs.Sorted.{apart_below}
use Rattle.metis_universe.proofs.Demands.{IsMet-map, is_met-true, met, some_provides}
use Rattle.metis_universe.proofs.PortRows.{Rises, rises}
use Rattle.metis_config.specs.Terms.{IsAtMost, IsLeast, changed, demanded, earlier_of, is_lost, is_met_if, is_required, is_unmet, own_unmet, pair_if, unmet, unmet_among, unmet_port}
use Rattle.metis_config.proofs.Unmets.{filter-filter, same_count, least_is_one}
use Rattle.metis_config.proofs.Changes.{is_met-put, unmet_changed}

-- ---- entries

weaker : (P Q : ℕ × ℕ → Type 0) (es : List (ℕ × ℕ)) → ((e : ℕ × ℕ) → P e → Q e) → AllByRecursion P es → AllByRecursion Q es
weaker P Q [] h all = tt
weaker P Q (e ∷ es) h all = (h e all.0, weaker P Q es h all.1)

pub each_there : (es : List (ℕ × ℕ)) → IsStrictlySortedBy nat_cmp (keys_of es) → AllByRecursion (λ e. lookup (nat_eq e.0) es ≡ Some e.1) es
unfolding IsStrictlySortedBy
each_there [] s = tt
each_there (x ∷ es) s = (
  ap (λ b. cond b (Some x.1) (lookup (nat_eq x.0) es)) (eq-eqb x.0 x.0 refl),
  weaker (λ e. lookup (nat_eq e.0) es ≡ Some e.1) (λ e. lookup (nat_eq e.0) (x ∷ es) ≡ Some e.1) es
      (λ e there. ap (λ b. cond b (Some x.1) (lookup (nat_eq e.0) es)) (apart_below x.0 es e.0 e.1 s.0 there) ∙ there) (each_there es s.1),
)

-- keys above k are greater
below_key : (k : ℕ) (es : List (ℕ × ℕ)) (z p : ℕ) → AllByRecursion (λ y. nat_cmp k y ≡ Less) (keys_of es) → lookup (nat_eq z) es ≡ Some p → k < z
below_key k [] z p h e = absurd (none-some _ e)
below_key k (x ∷ es) z p h e =
    elim (nat_eq z x.0) as (λ b. nat_eq z x.0 ≡ b → cond b (Some x.1) (lookup (nat_eq z) es) ≡ Some p → k < z) [
      | true ↦ λ at _. less k x.0 z h.0 at
      | false ↦ λ _ rest. below_key k es z p h.1 rest
    ] refl e where
      less : (k x z : ℕ) → nat_cmp k x ≡ Less → nat_eq z x ≡ true → k < z
      less k x z a b = grind (arith, nat_tests)

-- ---- ports

pub required_rises : (u : Universe) → IsUniverse u → (p : ℕ) → Rises (required_of u p)
required_rises u k p =
    elim (cases_lt p (pair_count u)) [
      | inl low ↦ rises (required_of u p) (k.required p low).0
      | inr high ↦ subst Rises (sym (ap (λ x. x.required) (get_or_past u.pairs p no_pair high))) tt
    ]

all_above : (x : ℕ) (xs : List ℕ) → AllByRecursion (λ y. x < y) xs → (s : ℕ) → has xs s ≡ true → x < s
all_above x [] h s there = absurd (false≢true there)
all_above x (y ∷ xs) h s there =
    elim (or_cases (nat_eq y s) _ there) [
      | inl here ↦ let e = eqb-true y s here in omega (arith, h.0)
      | inr later ↦ all_above x xs h.1 s later
    ]

pub port_found : (t : ℕ → Bool) (xs : List ℕ) (r : ℕ) → Rises xs → find t xs ≡ Some r → (has xs r ≡ true) × (t r ≡ true) × ((s : ℕ) → has xs s ≡ true → t s ≡ true → r ≤ s)
port_found t [] r h e = absurd (none-some _ e)
port_found t (x ∷ xs) r h e =
    elim (t x) as (λ b. t x ≡ b → cond b (Some x) (find t xs) ≡ Some r → (has (x ∷ xs) r ≡ true) × (t r ≡ true) × ((s : ℕ) → has (x ∷ xs) s ≡ true → t s ≡ true → r ≤ s)) [
      | true ↦ λ at some. let is : x ≡ r = cc in (
        or_left _ _ (eq-eqb x r is),
        ap t (sym is) ∙ at,
        λ s there _. elim (or_cases (nat_eq x s) _ there) [
          | inl here ↦ let e = eqb-true x s here in omega arith
          | inr later ↦ let l = all_above x xs h.0 s later in omega arith
        ],
      )
      | false ↦ λ out rest. let found = port_found t xs r h.1 rest in (
        or_right _ _ found.0,
        found.1,
        λ s there passes. elim (or_cases (nat_eq x s) _ there) [
          | inl here ↦ absurd (both_ways _ out (ap t (eqb-true x s here) ∙ passes))
          | inr later ↦ found.2 s later passes
        ],
      )
    ] refl e

-- ---- the whole

abbrev unmet_in : Universe → Config → List (ℕ × ℕ) → ℕ → ℕ → Bool
unmet_in u c es z r = option_map_or (λ p. requires u p r) (lookup (nat_eq z) es) false && not (is_met u c z r (option_map_or (λ p. demand_of u p r) (lookup (nat_eq z) es) 0))

-- whether the port has fewer providers than the pair demands
abbrev lacks_port : Universe → Config → ℕ → ℕ → ℕ → Bool
lacks_port u c z p r = not (is_met u c z r (demand_of u p r))

at_key : (u : Universe) (c : Config) (e : ℕ × ℕ) (es : List (ℕ × ℕ)) (r : ℕ) → unmet_in u c (e ∷ es) e.0 r ≡ (requires u e.1 r && lacks_port u c e.0 e.1 r)
at_key u c e es r = ap (λ b. option_map_or (λ p. requires u p r) (cond b (Some e.1) (lookup (nat_eq e.0) es)) false && not (is_met u c e.0 r (option_map_or (λ p. demand_of u p r) (cond b (Some e.1) (lookup (nat_eq e.0) es)) 0))) (eq-eqb e.0 e.0 refl)

off_key : (u : Universe) (c : Config) (e : ℕ × ℕ) (es : List (ℕ × ℕ)) (z r : ℕ) → nat_eq z e.0 ≡ false → unmet_in u c (e ∷ es) z r ≡ unmet_in u c es z r
off_key u c e es z r n = ap (λ b. option_map_or (λ p. requires u p r) (cond b (Some e.1) (lookup (nat_eq z) es)) false && not (is_met u c z r (option_map_or (λ p. demand_of u p r) (cond b (Some e.1) (lookup (nat_eq z) es)) 0))) n

there_above : (u : Universe) (c : Config) (e : ℕ × ℕ) (es : List (ℕ × ℕ)) → AllByRecursion (λ y. nat_cmp e.0 y ≡ Less) (keys_of es) → (z r : ℕ) → unmet_in u c es z r ≡ true → e.0 < z
there_above u c e es s z r h =
    let there = some_provides (λ p. requires u p r) (lookup (nat_eq z) es) (and_parts _ _ h).0 in
    below_key e.0 es z there.0 s there.1

module _ (u : Universe) (c : Config) (k : IsUniverse u) where
  after_key : (e : ℕ × ℕ) (es : List (ℕ × ℕ)) → AllByRecursion (λ y. nat_cmp e.0 y ≡ Less) (keys_of es) → unmet_port u c e.0 e.1 ≡ None →
      (o : Option (ℕ × ℕ)) → IsLeast (unmet_in u c es) o → IsLeast (unmet_in u c (e ∷ es)) o
  after_key e es s none None least = λ z r. elim (nat_eq z e.0) as (λ b. nat_eq z e.0 ≡ b → unmet_in u c (e ∷ es) z r ≡ false) [
    | true ↦ λ at. ap (λ z. unmet_in u c (e ∷ es) z r) (eqb-true z e.0 at) ∙ at_key u c e es r ∙ false_from_ne_true _ (λ h. let parts = and_parts (requires u e.1 r) _ h in both_ways _ (not_found (lacks_port u c e.0 e.1) (required_of u e.1) none r parts.0) parts.1)
    | false ↦ λ other. off_key u c e es z r other ∙ least z r
  ] refl
  after_key e es s none (Some x) least =
      let up = there_above u c e es s x.0 x.1 least.0 in (
        off_key u c e es x.0 x.1 (ne_eqb x.0 e.0 (λ q. omega arith)) ∙ least.0,
        λ z r h. elim (nat_eq z e.0) as (λ b. nat_eq z e.0 ≡ b → IsAtMost x z r) [
          | true ↦ λ at. absurd (both_ways _ (false_from_ne_true _ (λ h. let parts = and_parts (requires u e.1 r) _ h in both_ways _ (not_found (lacks_port u c e.0 e.1) (required_of u e.1) none r parts.0) parts.1)) (sym (at_key u c e es r) ∙ sym (ap (λ z. unmet_in u c (e ∷ es) z r) (eqb-true z e.0 at)) ∙ h))
          | false ↦ λ other. least.1 z r (sym (off_key u c e es z r other) ∙ h)
        ] refl,
      )

  least_in : (es : List (ℕ × ℕ)) → IsStrictlySortedBy nat_cmp (keys_of es) → IsLeast (unmet_in u c es) (unmet_among u c es)
  unfolding IsStrictlySortedBy
  least_in [] s = λ z r. refl
  least_in (e ∷ es) s =
      let port = unmet_port u c e.0 e.1 in
      elim port as (λ o. port ≡ o → IsLeast (unmet_in u c (e ∷ es)) (option_or (option_map (λ r. (e.0, r)) o) (unmet_among u c es))) [
        | None ↦ λ none. after_key e es s.0 none (unmet_among u c es) (least_in es s.1)
        | Some p ↦ λ some. let found = port_found (lacks_port u c e.0 e.1) (required_of u e.1) p (required_rises u k e.1) some in (
          at_key u c e es p ∙ and_from _ _ found.0 found.1,
          λ z r h. elim (nat_eq z e.0) as (λ b. nat_eq z e.0 ≡ b → IsAtMost (e.0, p) z r) [
            | true ↦ λ at. let is = eqb-true z e.0 at in
                let parts = and_parts (requires u e.1 r) _ (sym (at_key u c e es r) ∙ sym (ap (λ z. unmet_in u c (e ∷ es) z r) is) ∙ h) in
                inr (sym is, found.2 r parts.0 parts.1)
            | false ↦ λ other. inl (there_above u c e es s.0 z r (sym (off_key u c e es z r other) ∙ h))
          ] refl,
        )
      ] refl

  -- `unmet` is the least
  pub unmet_least : IsConfig c → IsLeast (is_unmet u c) (unmet u c)
  unmet_least h = least_in c.instances h.ascending

  pub unmet_is : IsConfig c → (o : Option (ℕ × ℕ)) → IsLeast (is_unmet u c) o → o ≡ unmet u c
  unmet_is h o least = least_is_one (is_unmet u c) o (unmet u c) least (unmet_least h)

  -- none is unmet exactly where the configuration is correct
  pub correct-unmet : IsConfig c → unmet u c ≡ None → Correct u c
  correct-unmet h none z p r there needs =
      let all = subst (IsLeast (is_unmet u c)) none (unmet_least h) in
      let n = demand_of u p r in
      let test : is_unmet u c z r ≡ (requires u p r && not (is_met u c z r n)) = ap (λ o. option_map_or (λ p. requires u p r) o false && not (is_met u c z r (option_map_or (λ p. demand_of u p r) o 0))) there in
      let fails : not (is_met u c z r n) ≡ false = sym (ap (λ b. b && not (is_met u c z r n)) needs) ∙ sym test ∙ all z r in
      met u c h z r n (turn (is_met u c z r n) fails) where
        turn : (b : Bool) → not b ≡ false → b ≡ true
        turn true h = refl
        turn false h = absurd (false≢true (sym h))

  pub unmet-correct : IsConfig c → Correct u c → unmet u c ≡ None
  unmet-correct h correct = sym (unmet_is h None (λ z r. false_from_ne_true _ (λ un.
      let parts = and_parts (is_required u c z r) _ un in
      let there = some_provides (λ p. requires u p r) (pair_of c z) parts.0 in
      let n = demand_of u there.0 r in
      let fails : not (is_met u c z r n) ≡ true = sym (ap (λ o. not (is_met u c z r (option_map_or (λ p. demand_of u p r) o 0))) there.1) ∙ parts.1 in
      false≢true (sym (ap not (is_met-true u c z r n (correct z there.0 r there.1 there.2))) ∙ fails))))

-- ---- after a change

IsConfig-changed : (c : Config) (z : ℕ) (o : Option ℕ) → IsConfig c → IsConfig (changed c z o)
IsConfig-changed c z None h = IsConfig-remove c z h
IsConfig-changed c z (Some q) h = IsConfig-put c z q h

own_none : (u : Universe) (c : Config) (z : ℕ) (r : ℕ) → is_unmet u (remove c z) z r ≡ false
own_none u c z r = ap (λ o. option_map_or (λ p. requires u p r) o false && not (is_met u (remove c z) z r (demanded u (remove c z) z r))) (pair_of-remove c z z ∙ ap (λ b. cond (not b) (pair_of c z) None) (eq-eqb z z refl))

abbrev lacks_if : Universe → Config → ℕ → ℕ → ℕ → Bool
lacks_if u c z q r = not (is_met_if u c z (Some q) z r (demand_of u q r))

own_some : (u : Universe) (c : Config) (z q r : ℕ) → is_unmet u (put c z q) z r ≡ (requires u q r && lacks_if u c z q r)
own_some u c z q r =
    ap (λ o. option_map_or (λ p. requires u p r) o false && not (is_met u (put c z q) z r (option_map_or (λ p. demand_of u p r) o 0))) (pair_of-put c z q z ∙ ap (λ b. cond b (Some q) (pair_of c z)) (eq-eqb z z refl))
    ∙ ap (λ b. requires u q r && not b) (is_met-put u c z q z r (demand_of u q r))

pub unmet-changed : (u : Universe) (c : Config) → IsUniverse u → IsConfig c → Correct u c → (z : ℕ) (o : Option ℕ) (own : Option ℕ) (lost : Option (ℕ × ℕ)) → own ≡ own_unmet u c z o → IsLeast (is_lost u c z o) lost → earlier_of z own lost ≡ unmet u (changed c z o)
unmet-changed u c k h correct z None own lost e least =
    unmet_is u (remove c z) k (IsConfig-remove c z h) (earlier_of z own lost)
    (unmet_changed u c h correct z None own lost (λ r _. own_none u c z r) (λ r s some. absurd (none-some _ (sym e ∙ some))) least)
unmet-changed u c k h correct z (Some q) own lost e least =
    unmet_is u (put c z q) k (IsConfig-put c z q h) (earlier_of z own lost)
    (unmet_changed u c h correct z (Some q) own lost
    (λ r none. own_some u c z q r ∙ false_from_ne_true _ (λ un. let parts = and_parts (requires u q r) _ un in both_ways _ (not_found (lacks_if u c z q) (required_of u q) (sym e ∙ none) r parts.0) parts.1))
    (λ r s some. let found = port_found (lacks_if u c z q) (required_of u q) r (required_rises u k q) (sym e ∙ some) in
    (own_some u c z q r ∙ and_from _ _ found.0 found.1, λ un. let parts = and_parts (requires u q s) _ (sym (own_some u c z q s) ∙ un) in found.2 s parts.0 parts.1))
    least)

-- ---- after a binding went

untied_one : (r z y b0 b1 b2 : ℕ) (given gone : Bool) → (nat_eq b2 y ≡ false → given ≡ gone) → (nat_eq b2 y ≡ true → gone ≡ false) →
    (not (nat_eq b0 r && nat_eq b1 z && nat_eq b2 y) && (nat_eq b0 r && nat_eq b1 z && given)) ≡ (nat_eq b0 r && nat_eq b1 z && gone)
untied_one r z y b0 b1 b2 given gone same none =
    elim (nat_eq b0 r && nat_eq b1 z) as (λ v. (not (v && nat_eq b2 y) && (v && given)) ≡ (v && gone)) [
      | true ↦ elim (nat_eq b2 y) as (λ v. nat_eq b2 y ≡ v → (not (true && v) && (true && given)) ≡ (true && gone)) [
        | true ↦ λ at. sym (none at)
        | false ↦ λ other. same other
      ] refl
      | false ↦ refl
    ]

is_met-untie : (u : Universe) (c : Config) (r z y n : ℕ) → is_met u (untie c r z y) z r n ≡ is_met_if u c y None z r n
is_met-untie u c r z y n =
    ap (leb n) (ap length (filter-filter (λ b. not (is_tie r z y b)) (λ b. (b.0 == r) && (b.1 == z) && option_map_or (λ q. provides u q r) (pair_of c b.2) false) c.bindings)
    ∙ same_count _ _ c.bindings (λ b. untied_one r z y b.0 b.1 b.2 (option_map_or (λ q. provides u q r) (pair_of c b.2) false) (option_map_or (λ q. provides u q r) (pair_if c y None b.2) false)
    (λ other. ap (λ v. option_map_or (λ q. provides u q r) (cond v None (pair_of c b.2)) false) (sym other))
    (λ there. ap (λ v. option_map_or (λ q. provides u q r) (cond v None (pair_of c b.2)) false) there)))

pub unmet-untied : (u : Universe) (c : Config) → IsUniverse u → IsConfig c → Correct u c → (r z y : ℕ) → (lacks : Bool) → lacks ≡ (is_required u c z r && not (is_met_if u c y None z r (demanded u c z r))) → cond lacks (Some (z, r)) None ≡ unmet u (untie c r z y)
unmet-untied u c k h correct r z y lacks e =
    unmet_is u (untie c r z y) k (IsConfig-untie c r z y h) (cond lacks (Some (z, r)) None) (least lacks e) where
      own : is_unmet u (untie c r z y) z r ≡ (is_required u c z r && not (is_met_if u c y None z r (demanded u c z r)))
      own = ap (λ b. is_required u c z r && not b) (is_met-untie u c r z y (demanded u c z r))

      others : (w s : ℕ) → is_unmet u (untie c r z y) w s ≡ true → (nat_eq s r && nat_eq w z) ≡ true
      others w s un =
          let parts = and_parts (is_required u c w s) _ un in
          let there = some_provides (λ p. requires u p s) (pair_of c w) parts.0 in
          let m = correct w there.0 s there.1 there.2 in
          elim (nat_eq s r && nat_eq w z) as (λ v. (nat_eq s r && nat_eq w z) ≡ v → v ≡ true) [
            | true ↦ λ _. refl
            | false ↦ λ other.
                let n = demand_of u there.0 s in
                let still : IsMet u (untie c r z y) w s n = IsMet-map u c (untie c r z y) w s n (λ v x. record {
                  pair = x.pair;
                  bound = is_bound-untie c r z y s w v ∙ and_from _ _ (ap (λ b. not (b && nat_eq v y)) other) x.bound;
                  there = x.there;
                  gives = x.gives;
                }) m in
                let fails : not (is_met u (untie c r z y) w s n) ≡ true = sym (ap (λ o. not (is_met u (untie c r z y) w s (option_map_or (λ p. demand_of u p s) o 0))) there.1) ∙ parts.1 in
                absurd (false≢true (sym (ap not (is_met-true u (untie c r z y) w s n still)) ∙ fails))
          ] refl

      least : (lacks : Bool) → lacks ≡ (is_required u c z r && not (is_met_if u c y None z r (demanded u c z r))) → IsLeast (is_unmet u (untie c r z y)) (cond lacks (Some (z, r)) None)
      least true e = (own ∙ sym e, λ w s un. let same = and_parts (nat_eq s r) _ (others w s un) in let a = eqb-true w z same.1 in let b = eqb-true s r same.0 in inr (sym a, omega arith))
      least false e = λ w s. false_from_ne_true _ (λ un.
          let same = and_parts (nat_eq s r) _ (others w s un) in
          both_ways _ (own ∙ sym e) (sym (λ i. is_unmet u (untie c r z y) (eqb-true w z same.1 i) (eqb-true s r same.0 i)) ∙ un))
