-- What stands beside what: S has the instances of c. The others are in d as they are in e, which a list over what is left to be
-- demanded leaves, and bound besides to the given ones that their pairs take. Then d is correct where c and e are.
use Rattle.std.proofs.Common.{◌≡◌, ℕ, ◌+◌, ◌-◌, ◌≤◌, Bool, true, false, cond, ◌||◌, List, [], ◌++◌, Option, Some, None, take, length, length-append, min, refl, sym, ap, ◌∙◌, subst, arith, inl, inr}
use Rattle.std.specs.Prelude.{IsSome}
use Rattle.std.proofs.lemmas.Bool.{both_ways, cases_Bool, false_from_ne_true, false≢true, or_cases, or_left, or_right}
use Rattle.std.proofs.lemmas.List.{length-take-le}
use Rattle.metis_ids.proofs.Lists.{has-append, has_take}
use Rattle.metis_rollout.proofs.Going.{Unpointed}
use Rattle.metis_rollout.proofs.Serving.{served_still}
use Rattle.metis_ids.proofs.Options.{IsSome_at}
use Rattle.metis_universe.proofs.Demands.{demand_none}
use Rattle.metis_universe.specs.Terms.{Config, Correct, IsConfig, IsMet, Universe, demand_of, has, is_bound, is_initial, pair_of, requires, residual}
use Rattle.metis_completion.specs.Terms.{AreGiven, given_demand, takes_given}
use Rattle.metis_completion.proofs.Front.{append_differs, front_differs}
use Rattle.metis_universe.proofs.Different.{rising_differ}
use Rattle.metis_completion.proofs.GivenSlots.{given_demand-few}
use Rattle.metis_completion.proofs.ResidualRows.{provided_before, residual_demand}

pub record AreBeside (u : Universe) (S : ℕ → Bool) (given : ℕ → List ℕ) (c e d : Config) : Type 0 where
  pub old_pairs : (z : ℕ) → S z ≡ true → pair_of d z ≡ pair_of c z
  pub new_pairs : (z : ℕ) → S z ≡ false → pair_of d z ≡ pair_of e z
  pub old_bindings : (r z y : ℕ) → S z ≡ true → is_bound d r z y ≡ is_bound c r z y
  pub new_bindings : (r z y : ℕ) → S z ≡ false → is_bound d r z y ≡ (is_bound e r z y || takes_given u given (pair_of e z) r y)

-- c is of the one side, and the given instances stand in it
pub record IsOldSide (u : Universe) (S : ℕ → Bool) (given : ℕ → List ℕ) (c : Config) : Type 0 where
  pub config : IsConfig c
  pub there : (z : ℕ) → IsSome (pair_of c z) → S z ≡ true
  pub correct : Correct u c
  pub given_ones : AreGiven u c given

-- e is of the other
pub record IsNewSide (S : ℕ → Bool) (e : Config) : Type 0 where
  pub config : IsConfig e
  pub there : (z : ℕ) → IsSome (pair_of e z) → S z ≡ false

module _ (u : Universe) (S : ℕ → Bool) (given : ℕ → List ℕ) (c : Config) (one : IsOldSide u S given c) where
  -- ---- the given ones

  pub given_old : (r y : ℕ) → has (given r) y ≡ true → S y ≡ true
  given_old r y h = let at = one.given_ones.stand r y h in one.there y (IsSome_at (pair_of c y) at.0 at.1)

  pub none_given : (r y n : ℕ) → S y ≡ false → has (take n (given r)) y ≡ false
  none_given r y n off = false_from_ne_true _ (λ h. both_ways (S y) off (given_old r y (has_take (given r) n y h)))

  pub takes_none : (o : Option ℕ) (r y : ℕ) → S y ≡ false → takes_given u given o r y ≡ false
  takes_none None r y off = refl
  takes_none (Some p) r y off = none_given r y (given_demand u given p r) off

  -- no binding of c leads over
  pub old_unbound : (r z y : ℕ) → S y ≡ false → is_bound c r z y ≡ false
  old_unbound r z y off = false_from_ne_true _ (λ h. both_ways (S y) off (one.there y (one.config.provider r z y h)))

  module _ (e : Config) (two : IsNewSide S e) where
    pub new_unbound : (r z y : ℕ) → S y ≡ true → is_bound e r z y ≡ false
    new_unbound r z y at = false_from_ne_true _ (λ h. both_ways (S y) (two.there y (two.config.provider r z y h)) at)

    module _ (d : Config) (b : AreBeside u S given c e d) where
      -- to an instance of e lead the bindings that lead there in e
      pub bound_new : (r z y : ℕ) → S z ≡ false → S y ≡ false → is_bound d r z y ≡ is_bound e r z y
      bound_new r z y off other = b.new_bindings r z y off ∙ ap (λ v. is_bound e r z y || v) (takes_none (pair_of e z) r y other) ∙ no_more (is_bound e r z y) where
        no_more : (v : Bool) → (v || false) ≡ v
        no_more true = refl
        no_more false = refl

      pub unpointed_beside : (z : ℕ) → S z ≡ false → Unpointed e z → Unpointed d z
      unpointed_beside z off none r x = elim (cases_Bool (S x)) [
        | inl at ↦ b.old_bindings r x z at ∙ old_unbound r x z off
        | inr other ↦ bound_new r x z other off ∙ none r x
      ]

      -- ---- correctness

      old_met : (z p r : ℕ) → S z ≡ true → pair_of d z ≡ Some p → requires u p r ≡ true → IsMet u d z r (demand_of u p r)
      old_met z p r at there needs =
          served_still u c d r z (demand_of u p r) (one.correct z p r (sym (b.old_pairs z at) ∙ there) needs)
          (λ y q h g. (b.old_bindings r z y at ∙ h, b.old_pairs y (one.there y (one.config.provider r z y h)) ∙ g))

      module _ (avoided : List ℕ) where
        abbrev v : Universe
        v = residual u (λ r. length (given r)) avoided

        -- what e has of the port is what is left to be demanded
        left_met : (z p r : ℕ) → Correct v e → pair_of e z ≡ Some p → IsMet v e z r (demand_of v p r)
        left_met z p r correct there = elim (requires v p r) as (λ w. requires v p r ≡ w → IsMet v e z r (demand_of v p r)) [
          | true ↦ λ needs. correct z p r there needs
          | false ↦ λ none. record { providers = []; different = tt; enough = subst (λ n. n ≤ 0) (sym (demand_none v p r none)) (omega arith); each = λ y h. absurd (false≢true h) }
        ] refl

        -- with the given ones it is enough
        sums_up : (p r k : ℕ) → demand_of v p r ≤ k → demand_of u p r ≤ given_demand u given p r + k
        sums_up p r k enough = by (is_initial u p) (demand_of u p r) (length (given r)) (subst (λ n. n ≤ k) (residual_demand u (λ s. length (given s)) avoided p r) enough) where
          by : (ini : Bool) (n g : ℕ) → cond ini n (n - g) ≤ k → n ≤ cond ini 0 (min n g) + k
          by true n g h = omega arith
          by false n g h = omega arith

        new_met : (z p r : ℕ) → S z ≡ false → Correct v e → pair_of d z ≡ Some p → requires u p r ≡ true → IsMet u d z r (demand_of u p r)
        new_met z p r off correct there needs =
            let stands : pair_of e z ≡ Some p = sym (b.new_pairs z off) ∙ there in
            let m = given_demand u given p r in
            let front = take m (given r) in
            let rest = left_met z p r correct stands in
            record {
              providers = front ++ rest.providers;
              different = append_differs front rest.providers (front_differs m (given r) (rising_differ (given r) (one.given_ones.ascend r))) rest.different
                  (λ y h. false_from_ne_true _ (λ g. let x = rest.each y g in both_ways (S y) (two.there y (IsSome_at (pair_of e y) x.pair x.there)) (given_old r y (has_take (given r) m y h))));
              enough = omega (arith, length-append front rest.providers, length-take-le m (given r) (given_demand-few u given p r), sums_up p r (length rest.providers) rest.enough);
              each = λ y h. elim (or_cases (has front y) (has rest.providers y) (sym (has-append front rest.providers y) ∙ h)) [
                | inl mine ↦
                    let among = has_take (given r) m y mine in
                    let x = one.given_ones.stand r y among in
                    record {
                      pair = x.0;
                      bound = b.new_bindings r z y off ∙ or_right (is_bound e r z y) (takes_given u given (pair_of e z) r y) (ap (λ o. takes_given u given o r y) stands ∙ mine);
                      there = b.old_pairs y (given_old r y among) ∙ x.1;
                      gives = x.2;
                    }
                | inr fresh ↦
                    let x = rest.each y fresh in
                    record {
                      pair = x.pair;
                      bound = b.new_bindings r z y off ∙ or_left (is_bound e r z y) (takes_given u given (pair_of e z) r y) x.bound;
                      there = b.new_pairs y (two.there y (IsSome_at (pair_of e y) x.pair x.there)) ∙ x.there;
                      gives = provided_before u (λ s. length (given s)) avoided x.pair r x.gives;
                    }
              ];
            }

        pub beside_correct : Correct v e → Correct u d
        beside_correct correct z p r there needs = elim (cases_Bool (S z)) [
          | inl at ↦ old_met z p r at there needs
          | inr off ↦ new_met z p r off correct there needs
        ]
