-- What is unmet after an instance came, went or moved, or after a binding went, where nothing was unmet before.
use Rattle.std.proofs.Common.{◌≡◌, ℕ, ◌<◌, ◌≤◌, Bool, true, false, cond, not, ◌&&◌, ◌||◌, leb, length, [], Option, Some, None, refl, ap, sym, ◌∙◌, subst, nat_eq, inl, inr, arith}
use Rattle.std.specs.Prelude.{◌==◌}
use Rattle.std.specs.Option.{option_map_or}
use Rattle.std.proofs.lemmas.Bool.{false≢true, both_ways, and_parts, and_from, eqb-true, ne_eqb, cases_lt, false_from_ne_true, le-leb, lt-ltb, le-ltb}
use Rattle.std.proofs.lemmas.Bool.Decides.{nat_tests}
use Rattle.metis_universe.specs.Terms.{Config, Correct, IsConfig, IsMet, IsProvider, Universe, demand_of, is_bound, is_met, names, pair_of, put, remove, requires}
use Rattle.metis_universe.proofs.Demands.{demand_none, gives, many_bound, provider_gives}
use Rattle.metis_universe.proofs.Edits.{pair_of-put, pair_of-remove}
use Rattle.metis_config.specs.Terms.{IsAtMost, IsLeast, changed, demanded, earlier_of, is_lost, is_met_if, is_required, is_unmet, pair_if}
use Rattle.metis_config.proofs.Unmets.{filter-filter, same_count}

-- ---- who meets

-- where all ports are met, each has as many providers as are demanded, and none is demanded of a port that is not required
pub demanded_met : (u : Universe) (c : Config) → Correct u c → (w r : ℕ) → IsMet u c w r (demanded u c w r)
demanded_met u c correct w r = by (pair_of c w) refl where
  nothing : IsMet u c w r 0
  nothing = record { providers = []; different = tt; enough = omega arith; each = λ y there. absurd (false≢true there) }

  of_pair : (p : ℕ) → pair_of c w ≡ Some p → (b : Bool) → requires u p r ≡ b → IsMet u c w r (demand_of u p r)
  of_pair p at true needs = correct w p r at needs
  of_pair p at false none = subst (IsMet u c w r) (sym (demand_none u p r none)) nothing

  by : (o : Option ℕ) → pair_of c w ≡ o → IsMet u c w r (option_map_or (λ p. demand_of u p r) o 0)
  by None at = nothing
  by (Some p) at = of_pair p at (requires u p r) refl

-- a port whose providers all give it still has no fewer than are demanded now
pub still_met : (u : Universe) (c : Config) → Correct u c → (z : ℕ) (o : Option ℕ) (w r n : ℕ) → n ≤ demanded u c w r →
    ((y : ℕ) → IsProvider u c w r y → gives u r (pair_if c z o y) ≡ true) → is_met_if u c z o w r n ≡ true
still_met u c correct z o w r n few keeps =
    let m = demanded_met u c correct w r in
    le-leb n _ (many_bound (λ y. gives u r (pair_if c z o y)) r w c.bindings m.providers n m.different (omega (arith, few, m.enough)) (λ y there. let x = m.each y there in (x.bound, keeps y x)))

-- a provider that is not the one that changes gives what it gave
pub other_gives : (u : Universe) (c : Config) (z : ℕ) (o : Option ℕ) (w r y : ℕ) → IsProvider u c w r y → nat_eq y z ≡ false → gives u r (pair_if c z o y) ≡ true
other_gives u c z o w r y x other = ap (λ v. gives u r (cond v o (pair_of c y))) other ∙ provider_gives u c w r y x

-- ---- the change of one instance

pub is_met-put : (u : Universe) (c : Config) (z q w r n : ℕ) → is_met u (put c z q) w r n ≡ is_met_if u c z (Some q) w r n
is_met-put u c z q w r n = ap (leb n) (same_count _ _ c.bindings (λ b. ap (λ o. (b.0 == r) && (b.1 == w) && gives u r o) (pair_of-put c z q b.2)))

removed_one : (r w z : ℕ) (b0 b1 b2 : ℕ) (given gone : Bool) → nat_eq w z ≡ false → (nat_eq b2 z ≡ false → given ≡ gone) → (nat_eq b2 z ≡ true → gone ≡ false) →
    (not (nat_eq b1 z || nat_eq b2 z) && (nat_eq b0 r && nat_eq b1 w && given)) ≡ (nat_eq b0 r && nat_eq b1 w && gone)
removed_one r w z b0 b1 b2 given gone n same none =
    elim (nat_eq b1 w) as (λ v. nat_eq b1 w ≡ v → (not (nat_eq b1 z || nat_eq b2 z) && (nat_eq b0 r && v && given)) ≡ (nat_eq b0 r && v && gone)) [
      | true ↦ λ at. let apart : nat_eq b1 z ≡ false = ap (λ x. nat_eq x z) (eqb-true b1 w at) ∙ n in
          ap (λ v. not (v || nat_eq b2 z) && (nat_eq b0 r && true && given)) apart ∙ elim (nat_eq b2 z) as (λ v. nat_eq b2 z ≡ v → (not (false || v) && (nat_eq b0 r && true && given)) ≡ (nat_eq b0 r && true && gone)) [
            | true ↦ λ there. sym (ap (λ v. nat_eq b0 r && true && v) (none there) ∙ and_false (nat_eq b0 r && true))
            | false ↦ λ other. ap (λ v. nat_eq b0 r && true && v) (same other)
          ] refl
      | false ↦ λ _. ap (λ v. not (nat_eq b1 z || nat_eq b2 z) && v) (no_front (nat_eq b0 r) given) ∙ and_false _ ∙ sym (no_front (nat_eq b0 r) gone)
    ] refl where
      and_false : (a : Bool) → (a && false) ≡ false
      and_false true = refl
      and_false false = refl

      no_front : (a v : Bool) → (a && false && v) ≡ false
      no_front true v = refl
      no_front false v = refl

pub is_met-remove : (u : Universe) (c : Config) (z w r m : ℕ) → nat_eq w z ≡ false → is_met u (remove c z) w r m ≡ is_met_if u c z None w r m
is_met-remove u c z w r m n =
    ap (leb m) (ap length (filter-filter (λ b. not (names z b)) (λ b. (b.0 == r) && (b.1 == w) && gives u r (pair_of (remove c z) b.2)) c.bindings)
    ∙ same_count _ _ c.bindings (λ b. removed_one r w z b.0 b.1 b.2 (gives u r (pair_of (remove c z) b.2)) (gives u r (pair_if c z None b.2)) n
    (λ other. ap (gives u r) (pair_of-remove c z b.2 ∙ (λ i. cond (not (other i)) (pair_of c b.2) None) ∙ (λ i. cond (sym other i) None (pair_of c b.2))))
    (λ there. ap (λ v. gives u r (cond v None (pair_of c b.2))) there)))

pub pair_of-changed : (c : Config) (z : ℕ) (o : Option ℕ) (w : ℕ) → pair_of (changed c z o) w ≡ cond (nat_eq w z) o (pair_of c w)
pair_of-changed c z (Some q) w = pair_of-put c z q w
pair_of-changed c z None w = pair_of-remove c z w ∙ turn (nat_eq w z) where
  turn : (v : Bool) → cond (not v) (pair_of c w) None ≡ cond v None (pair_of c w)
  turn true = refl
  turn false = refl

pub is_met-changed : (u : Universe) (c : Config) (z : ℕ) (o : Option ℕ) (w r m : ℕ) → nat_eq w z ≡ false → is_met u (changed c z o) w r m ≡ is_met_if u c z o w r m
is_met-changed u c z (Some q) w r m n = is_met-put u c z q w r m
is_met-changed u c z None w r m n = is_met-remove u c z w r m n

module _ (u : Universe) (c : Config) (k : IsConfig c) (correct : Correct u c) (z : ℕ) (o : Option ℕ) where
  same_pair : (w : ℕ) → nat_eq w z ≡ false → pair_of (changed c z o) w ≡ pair_of c w
  same_pair w n = pair_of-changed c z o w ∙ ap (λ v. cond v o (pair_of c w)) n

  -- what is met of the others is met as they demand
  met_alike : (w r : ℕ) → nat_eq w z ≡ false → is_met u (changed c z o) w r (demanded u (changed c z o) w r) ≡ is_met_if u c z o w r (demanded u c w r)
  met_alike w r n =
      ap (λ p. is_met u (changed c z o) w r (option_map_or (λ p. demand_of u p r) p 0)) (same_pair w n)
      ∙ is_met-changed u c z o w r (demanded u c w r) n

  -- of the others only a client of z can lack what it needs
  only_clients : (w r : ℕ) → nat_eq w z ≡ false → is_unmet u (changed c z o) w r ≡ true → is_lost u c z o w r ≡ true
  only_clients w r n h =
      let parts = and_parts _ _ h in
      let needed : is_required u c w r ≡ true = sym (ap (λ p. option_map_or (λ p. requires u p r) p false) (same_pair w n)) ∙ parts.0 in
      let unmet : not (is_met_if u c z o w r (demanded u c w r)) ≡ true = sym (ap not (met_alike w r n)) ∙ parts.1 in
      elim (is_bound c r w z) as (λ v. is_bound c r w z ≡ v → is_lost u c z o w r ≡ true) [
        | true ↦ λ bound. and_from _ _ (and_from _ _ bound needed) unmet
        | false ↦ λ none.
            let still = still_met u c correct z o w r (demanded u c w r) (omega arith)
            (λ y x. other_gives u c z o w r y x (false_from_ne_true _ (λ same. both_ways _ none (sym (ap (is_bound c r w) (eqb-true y z same)) ∙ x.bound)))) in
            absurd (false≢true (sym (ap not still) ∙ unmet))
      ] refl

  lost_apart : (w r : ℕ) → is_lost u c z o w r ≡ true → nat_eq w z ≡ false
  lost_apart w r h =
      let parts = and_parts (is_bound c r w z && is_required u c w r) _ h in
      ne_eqb w z (k.apart r w z (and_parts _ _ parts.0).0)

  clients_only : (w r : ℕ) → is_lost u c z o w r ≡ true → is_unmet u (changed c z o) w r ≡ true
  clients_only w r h =
      let n = lost_apart w r h in
      let parts = and_parts (is_bound c r w z && is_required u c w r) _ h in
      and_from _ _ (ap (λ p. option_map_or (λ p. requires u p r) p false) (same_pair w n) ∙ (and_parts _ _ parts.0).1) (ap not (met_alike w r n) ∙ parts.1)

  -- the least of z's own and of its clients'
  pub unmet_changed : (own : Option ℕ) (lost : Option (ℕ × ℕ)) →
      ((r : ℕ) → own ≡ None → is_unmet u (changed c z o) z r ≡ false) →
      ((r s : ℕ) → own ≡ Some r → (is_unmet u (changed c z o) z r ≡ true) × (is_unmet u (changed c z o) z s ≡ true → r ≤ s)) →
      IsLeast (is_lost u c z o) lost → IsLeast (is_unmet u (changed c z o)) (earlier_of z own lost)
  unmet_changed None None none some least = λ w r. false_from_ne_true _ (λ h.
      elim (nat_eq w z) as (λ v. nat_eq w z ≡ v → ⊥) [
        | true ↦ λ at. both_ways _ (none r refl) (sym (ap (λ w. is_unmet u (changed c z o) w r) (eqb-true w z at)) ∙ h)
        | false ↦ λ other. both_ways _ (least w r) (only_clients w r other h)
      ] refl)
  unmet_changed None (Some x) none some least = (
    clients_only x.0 x.1 least.0,
    λ w r h.
        elim (nat_eq w z) as (λ v. nat_eq w z ≡ v → IsAtMost x w r) [
          | true ↦ λ at. absurd (both_ways _ (none r refl) (sym (ap (λ w. is_unmet u (changed c z o) w r) (eqb-true w z at)) ∙ h))
          | false ↦ λ other. least.1 w r (only_clients w r other h)
        ] refl,
  )
  unmet_changed (Some p) None none some least = (
    (some p p refl).0,
    λ w r h.
        elim (nat_eq w z) as (λ v. nat_eq w z ≡ v → IsAtMost (z, p) w r) [
          | true ↦ λ at. let e = eqb-true w z at in inr (sym e, (some p r refl).1 (sym (ap (λ w. is_unmet u (changed c z o) w r) e) ∙ h))
          | false ↦ λ other. absurd (both_ways _ (least w r) (only_clients w r other h))
        ] refl,
  )
  unmet_changed (Some p) (Some x) none some least =
      elim (cases_lt x.0 z) [
        | inl less ↦ subst (IsLeast (is_unmet u (changed c z o))) (sym (ap (λ v. cond v (Some x) (Some (z, p))) (lt-ltb x.0 z less))) (
          clients_only x.0 x.1 least.0,
          λ w r h.
              elim (nat_eq w z) as (λ v. nat_eq w z ≡ v → IsAtMost x w r) [
                | true ↦ λ at. let e = eqb-true w z at in inl (omega arith)
                | false ↦ λ other. least.1 w r (only_clients w r other h)
              ] refl,
        )
        | inr more ↦ subst (IsLeast (is_unmet u (changed c z o))) (sym (ap (λ v. cond v (Some x) (Some (z, p))) (le-ltb x.0 z more))) (
          (some p p refl).0,
          λ w r h.
              elim (nat_eq w z) as (λ v. nat_eq w z ≡ v → IsAtMost (z, p) w r) [
                | true ↦ λ at. let e = eqb-true w z at in inr (sym e, (some p r refl).1 (sym (ap (λ w. is_unmet u (changed c z o) w r) e) ∙ h))
                | false ↦ λ other. elim (least.1 w r (only_clients w r other h)) [
                  | inl before ↦ inl (omega arith)
                  | inr same ↦ inl (later w other more same.0)
                ]
              ] refl,
        )
      ] where
        later : (w : ℕ) → nat_eq w z ≡ false → z ≤ x.0 → x.0 ≡ w → z < w
        later w other more e = grind (arith, nat_tests)
