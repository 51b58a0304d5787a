-- Each instance that goes and that the first two steps leave is in a pair that has a layer.
use Rattle.std.proofs.Common.{◌≡◌, ℕ, zero, suc, ◌<◌, ◌≤◌, Bool, true, false, cond, List, [], ◌∷◌, length, map, get_or, Some, refl, sym, subst, arith, nat_eq}
use Rattle.std.specs.Prelude.{IsSome}
use Rattle.std.specs.List.{All, count_by}
use Rattle.std.specs.List.Sorted.{IsStrictlySortedBy}
use Rattle.std.specs.Map.{keys_of, lookup}
use Rattle.std.specs.Ordering.{nat_cmp}
use Rattle.std.proofs.lemmas.Bool.{eq-eqb, false≢true}
use Rattle.std.proofs.lemmas.List.Sums.{sum_by-cons}
use Rattle.metis_ids.specs.declared.actions.Action.{Action}
use Rattle.metis_universe.specs.Terms.{IsRun, IsUniverse, Universe, after_all, empty, layer_of}
use Rattle.metis_universe.proofs.Sorted.{lookup_counted}
use Rattle.metis_universe.proofs.Kept.{IsConfig-after_all, IsConfig-empty}
use Rattle.metis_rollout.specs.Terms.{among, pairs_in}
use Rattle.metis_rollout.proofs.Among.{IsConfig-among, pair_from}
use Rattle.metis_rollout.proofs.Removal.{left, left_config_of}
use Rattle.metis_rollout.proofs.Whole.{layer}

counted : (es : List (ℕ × ℕ)) (i d : ℕ) → i < length (map (λ e. e.1) es) → 1 ≤ count_by (λ e. nat_eq e.1 (get_or (map (λ e. e.1) es) i d)) es
counted [] i d low = absurd (omega arith)
counted (e ∷ es) zero d low =
    omega (arith, sum_by-cons (λ (f : ℕ × ℕ). cond (nat_eq f.1 e.1) 1 0) e es, one (nat_eq e.1 e.1) (eq-eqb e.1 e.1 refl)) where
      one : (b : Bool) → b ≡ true → 1 ≤ cond b 1 0
      one true is = omega arith
      one false is = absurd (false≢true is)
counted (e ∷ es) (suc i) d low =
    let p = get_or (map (λ (e : ℕ × ℕ). e.1) es) i d in
    omega (arith, sum_by-cons (λ (f : ℕ × ℕ). cond (nat_eq f.1 p) 1 0) e es, counted es i d (omega arith))

-- what holds of each pair that an instance is in holds of each pair that is listed
each_pair : (Q : ℕ → Type 0) (es : List (ℕ × ℕ)) → IsStrictlySortedBy nat_cmp (keys_of es) → ((z p : ℕ) → lookup (nat_eq z) es ≡ Some p → Q p) → All Q (map (λ e. e.1) es)
each_pair Q es sorted all i d low =
    let p = get_or (map (λ (e : ℕ × ℕ). e.1) es) i d in
    let at = lookup_counted p es sorted (counted es i d low) in
    all at.0 p at.1

pub left_layered : (u : Universe) (goes : ℕ → Bool) (xs : List Action) → IsUniverse u → IsRun u empty xs → All (λ p. IsSome (layer_of u p)) (pairs_in (among goes (left u goes xs)))
left_layered u goes xs k run =
    let good = IsConfig-among goes (left u goes xs) (left_config_of u goes (after_all u empty xs) (IsConfig-after_all u empty xs IsConfig-empty run)) in
    each_pair (λ p. IsSome (layer_of u p)) (among goes (left u goes xs)).instances good.ascending (λ z p there. subst IsSome (sym (layer u k goes xs run z p (pair_from goes (left u goes xs) z p there).1).is) refl)
