-- The pairs that are not attainable wait for one another.
use Rattle.std.proofs.Common.{◌≡◌, ℕ, ◌<◌, Bool, true, false, not, ◌&&◌, List, [], ◌∷◌, refl, sym, ap, ◌∙◌, nat_eq}
use Rattle.std.specs.List.{list_all, list_any}
use Rattle.std.proofs.lemmas.Bool.{both_ways, false_from_ne_true, not-true, or_left, or_right, eq-eqb, true_from_ne_false, true≢false}
use Rattle.metis_ids.proofs.Lists.{any_at, some_member}
use Rattle.metis_ids.specs.declared.goals.Goal.{Goal}
use Rattle.metis_ids.specs.declared.goals.Goal.TheVariants.{Pair, Port}
use Rattle.metis_layers.specs.Terms.{attained_pairs}
use Rattle.metis_universe.proofs.Attained.{Closed-layers}
use Rattle.metis_universe.proofs.Correctness.{all_from_has, all_has}
use Rattle.metis_universe.specs.Terms.{Closed, IsGoalOf, IsUniverse, Universe, has, is_free, is_provided, lacks, next_of, pair_count, providers_of, provides, required_of, requires}
use Rattle.metis_why.proofs.Soundness.{passes_of}
use Rattle.metis_why.specs.Terms.{IsBarred, IsLacking, IsReason, before_of, wanted_by}
use Rattle.metis_why.specs.declared.reason.Reason.{Reason}
use Rattle.metis_why.specs.declared.reason.Reason.TheVariants.{Needs, Comes}

some_fails : (t : ℕ → Bool) (xs : List ℕ) → list_all t xs ≡ false → (r : ℕ) × (has xs r ≡ true) × (t r ≡ false)
some_fails t [] h = absurd (true≢false h)
some_fails t (x ∷ xs) h =
    elim (t x) as (λ b. t x ≡ b → (b && list_all t xs) ≡ false → (r : ℕ) × (has (x ∷ xs) r ≡ true) × (t r ≡ false)) [
      | true ↦ λ _ rest. let found = some_fails t xs rest in (found.0, or_right (nat_eq x found.0) _ found.1, found.2)
      | false ↦ λ at _. (x, or_left (nat_eq x x) _ (eq-eqb x x refl), at)
    ] refl h

module _ (u : Universe) (k : IsUniverse u) (x : ℕ → Bool) (away : IsLacking u x) where
  there_where_not : (p : ℕ) → p < pair_count u → x p ≡ false → has (attained_pairs u) p ≡ true
  there_where_not p low off = true_from_ne_false (has (attained_pairs u) p) (λ none. both_ways (x p) off (away.each p low ∙ ap not none))

  not_where_there : (p : ℕ) → x p ≡ true → has (attained_pairs u) p ≡ false
  not_where_there p on = not-true (has (attained_pairs u) p) (sym (away.each p (away.within p on)) ∙ on)

  needs_one : (q r : ℕ) → requires u q r ≡ true → is_provided u (attained_pairs u) r ≡ false → IsReason u x q (Needs r)
  needs_one q r needs none = record {
    own = needs;
    waits = all_from_has x (providers_of u r) (λ y there.
        let at = passes_of u (λ z. provides u z r) y there in
        true_from_ne_false (x y) (λ off. both_ways (is_provided u (attained_pairs u) r) none (any_at (λ z. provides u z r) y (attained_pairs u) (there_where_not y at.1 off) at.0)));
  }

  comes_one : (q : ℕ) → is_free u q ≡ false → list_any (λ p. has (next_of u p) q) (attained_pairs u) ≡ false → IsReason u x q Comes
  comes_one q bound none = record {
    own = bound;
    waits = all_from_has x (before_of u q) (λ y there.
        let at = passes_of u (λ z. has (next_of u z) q) y there in
        true_from_ne_false (x y) (λ off. both_ways (list_any (λ p. has (next_of u p) q) (attained_pairs u)) none (any_at (λ p. has (next_of u p) q) y (attained_pairs u) (there_where_not y at.1 off) at.0)));
  }

  pub lacking_barred : IsBarred u x
  lacking_barred q on = by (list_all (is_provided u (attained_pairs u)) (required_of u q)) refl (list_any (λ p. has (next_of u p) q) (attained_pairs u)) refl where
    closed : Closed u (attained_pairs u)
    closed = Closed-layers u k

    gone : has (attained_pairs u) q ≡ false
    gone = not_where_there q on

    bound : is_free u q ≡ false
    bound = false_from_ne_true (is_free u q) (λ free. both_ways (has (attained_pairs u) q) gone (closed.free q free))

    by : (b : Bool) → list_all (is_provided u (attained_pairs u)) (required_of u q) ≡ b → (a : Bool) → list_any (λ p. has (next_of u p) q) (attained_pairs u) ≡ a → (reason : Reason) × IsReason u x q reason
    by false met a led = let r = some_fails (is_provided u (attained_pairs u)) (required_of u q) met in (Needs r.0, needs_one q r.0 r.1 r.2)
    by true met false led = (Comes, comes_one q bound led)
    by true met true led =
        let from = some_member (λ p. has (next_of u p) q) (attained_pairs u) led in
        absurd (both_ways (has (attained_pairs u) q) gone (closed.moves from.0 q from.1 from.2 (λ r needs. some_member (λ y. provides u y r) (attained_pairs u) (all_has (is_provided u (attained_pairs u)) r (required_of u q) met needs))))

  -- ---- a goal that is not covered

  pub uncovered : (g : Goal) → IsGoalOf u g → list_all x (wanted_by u g) ≡ false → lacks u (attained_pairs u) g ≡ false
  uncovered (Pair p) low none = ap not (there_where_not p low (first (x p) none)) where
    first : (b : Bool) → (b && true) ≡ false → b ≡ false
    first true h = absurd (true≢false h)
    first false h = refl
  uncovered (Port r) low none =
      let y = some_fails x (providers_of u r) none in
      let at = passes_of u (λ z. provides u z r) y.0 y.1 in
      ap not (any_at (λ z. provides u z r) y.0 (attained_pairs u) (there_where_not y.0 at.1 y.2) at.0)
