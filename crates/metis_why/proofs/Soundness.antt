-- The pairs outside a barred set are closed.
use Rattle.std.proofs.Common.{◌≡◌, ℕ, ◌<◌, ◌≤◌, Bool, true, false, not, List, sym, ap, ◌∙◌, subst, arith, nat_eq}
use Rattle.std.specs.List.{filter}
use Rattle.std.proofs.lemmas.Bool.{and_from, and_parts, both_ways, eqb-true, false_from_ne_true, not-true, true≢false}
use Rattle.std.proofs.lemmas.List.{get_or_default}
use Rattle.std.proofs.lemmas.List.Folds.{Any-from_list_any}
use Rattle.metis_ids.proofs.Lists.{all_at, some_member}
use Rattle.metis_universe.specs.Terms.{AttainsGoals, Closed, IsRun, IsUniverse, Universe, after_all, all_pairs, empty, has, initial_of, is_free, is_initial, is_provided, lacks, next_of, no_kind, pair_count, places_of, providers_of, provides, requires, serving, type_of}
use Rattle.metis_ids.specs.declared.actions.Action.{Action}
use Rattle.metis_ids.specs.declared.goals.Goal.{Goal}
use Rattle.metis_ids.specs.declared.goals.Goal.TheVariants.{Pair, Port}
use Rattle.metis_universe.proofs.Correctness.{all_has}
use Rattle.metis_universe.proofs.Ranges.{in_range}
use Rattle.metis_universe.proofs.Rounds.{has-filter}
use Rattle.metis_universe.proofs.Served.{run_lacks}
use Rattle.metis_why.specs.Terms.{Covers, IsBarred, IsOwn, IsReason, before_of, outside}
use Rattle.metis_why.specs.declared.reason.Reason.{Reason}
use Rattle.metis_why.specs.declared.reason.Reason.TheVariants.{Needs, Comes}
use Rattle.metis_universe.proofs.Attained.{pair_in}
use Rattle.metis_universe.proofs.Once.{free_needs}

pub pair_low : (u : Universe) (p : ℕ) → has (all_pairs u) p ≡ true → p < pair_count u
pair_low u p h = omega (arith, (in_range 0 (pair_count u) p h).1)

-- what is in the filtered list of all pairs
pub kept_by : (u : Universe) (t : ℕ → Bool) (p : ℕ) → p < pair_count u → t p ≡ true → has (filter t (all_pairs u)) p ≡ true
kept_by u t p low passes = has-filter t p (all_pairs u) ∙ and_from (t p) (has (all_pairs u) p) passes (pair_in u p low)

pub passes_of : (u : Universe) (t : ℕ → Bool) (p : ℕ) → has (filter t (all_pairs u)) p ≡ true → (t p ≡ true) × (p < pair_count u)
passes_of u t p there = let parts = and_parts (t p) (has (all_pairs u) p) (sym (has-filter t p (all_pairs u)) ∙ there) in (parts.0, pair_low u p parts.1)

pub free_not_held : (u : Universe) (x : ℕ → Bool) → IsBarred u x → (p : ℕ) → is_free u p ≡ true → x p ≡ true → ⊥
free_not_held u x barred p free held = let why = barred p held in by why.0 why.1.own where
  by : (reason : Reason) → IsOwn u p reason → ⊥
  by (Needs r) own = free_needs u p r free own
  by Comes own = true≢false (sym free ∙ own)

pub moved_not_held : (u : Universe) (x : ℕ → Bool) → IsBarred u x → (p q : ℕ) → p < pair_count u → x p ≡ false → has (next_of u p) q ≡ true →
    ((r : ℕ) → requires u q r ≡ true → (y : ℕ) × (y < pair_count u) × (x y ≡ false) × (provides u y r ≡ true)) → x q ≡ true → ⊥
moved_not_held u x barred p q low away leads met held = let why = barred q held in by why.0 why.1 where
  by : (reason : Reason) → IsReason u x q reason → ⊥
  by (Needs r) why =
      let y = met r why.own in
      both_ways (x y.0) y.2 (all_has x y.0 (providers_of u r) why.waits (kept_by u (λ z. provides u z r) y.0 y.1 y.3))
  by Comes why = both_ways (x p) away (all_has x p (before_of u q) why.waits (kept_by u (λ z. has (next_of u z) q) p low leads))

module _ (u : Universe) (k : IsUniverse u) where
  initial_low : (p : ℕ) → is_initial u p ≡ true → p < pair_count u
  initial_low p h =
      let found = Any-from_list_any (λ x. nat_eq x.initial p) u.kinds h in
      let t = found.0 in
      let is : initial_of u t ≡ found.1.initial = ap (λ x. x.initial) (get_or_default u.kinds t no_kind found.1 found.2 ∙ found.3) in
      let at : initial_of u t ≡ p = is ∙ eqb-true found.1.initial p found.4 in
      subst (λ x. x < pair_count u) at (k.initials t found.2).0

  pub next_low : (p q : ℕ) → p < pair_count u → has (next_of u p) q ≡ true → q < pair_count u
  next_low p q low leads = (all_at (λ x. (x < pair_count u) × (type_of u x ≡ type_of u p)) q (next_of u p) (k.next p low).1 leads).0

  pub closed_out : (x : ℕ → Bool) → IsBarred u x → Closed u (outside u x)
  closed_out x barred = record {
    free = λ p free. kept_by u (λ z. not (x z)) p (initial_low p (and_parts _ _ free).0) (ap not (false_from_ne_true (x p) (free_not_held u x barred p free)));
    moves = λ p q there leads met.
        let from = passes_of u (λ z. not (x z)) p there in
        let needs : (r : ℕ) → requires u q r ≡ true → (y : ℕ) × (y < pair_count u) × (x y ≡ false) × (provides u y r ≡ true) =
        λ r wants. let y = met r wants in let at = passes_of u (λ z. not (x z)) y.0 y.1 in (y.0, at.1, not-true (x y.0) at.0, y.2) in
        kept_by u (λ z. not (x z)) q (next_low p q from.1 leads)
        (ap not (false_from_ne_true (x q) (moved_not_held u x barred p q from.1 (not-true (x p) from.0) leads needs)));
  }

  -- a goal that is covered is lacking outside
  covered_lacks : (x : ℕ → Bool) (g : Goal) → Covers u x g → lacks u (outside u x) g ≡ true
  covered_lacks x (Pair p) covers =
      ap not (false_from_ne_true (has (outside u x) p) (λ there.
      both_ways (x p) (not-true (x p) (passes_of u (λ z. not (x z)) p there).0) (and_parts (x p) true covers).0))
  covered_lacks x (Port r) covers =
      ap not (false_from_ne_true (is_provided u (outside u x) r) (λ provided.
      let y = some_member (λ z. provides u z r) (outside u x) provided in
      let at = passes_of u (λ z. not (x z)) y.0 y.1 in
      both_ways (x y.0) (not-true (x y.0) at.0) (all_has x y.0 (providers_of u r) covers (kept_by u (λ z. provides u z r) y.0 at.1 y.2))))

  pub unserved : (x : ℕ → Bool) (g : Goal) (actions : List Action) → IsBarred u x → Covers u x g → IsRun u empty actions → serving u (after_all u empty actions) g ≡ 0
  unserved x g actions barred covers run = run_lacks u (outside u x) actions g (closed_out x barred) run (covered_lacks x g covers)

  pub unattained : (x : ℕ → Bool) (g : Goal) (goals : List Goal) → IsBarred u x → Covers u x g → 1 ≤ places_of goals g → AttainsGoals u goals → ⊥
  unattained x g goals barred covers asked attained = omega (arith, unserved x g attained.0 barred covers attained.1, attained.2 g, asked)
