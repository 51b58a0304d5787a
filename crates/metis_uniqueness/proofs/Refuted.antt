-- The verdict that is true of a set of pairs as a refusal is one.
use Rattle.std.proofs.lemmas.Option.{same_Some}
use Rattle.std.proofs.Common.{◌≡◌, ◌⊎◌, ℕ, ◌<◌, ◌≤◌, List, refl, sym, ap, ◌∙◌, arith, inl, inr}
use Rattle.std.proofs.lemmas.Bool.{both_ways}
use Rattle.metis_ids.specs.declared.goals.Goal.{Goal}
use Rattle.metis_refusal.specs.Terms.{HasFree, IsLeastUnfree, IsLeastWayOut, Tells}
use Rattle.metis_refusal.specs.declared.verdict.Verdict2.{Verdict2}
use Rattle.metis_refusal.specs.declared.verdict.Verdict2.TheVariants.{Closed, NotFree, Open, LacksNone}
use Rattle.metis_universe.specs.Closed as closed
use Rattle.metis_universe.specs.Terms.{Universe, lacks}
use Rattle.metis_uniqueness.proofs.Firsts.{found_passes}

module _ (u : Universe) (s : List ℕ) (goals : List Goal) where
  free_inside : (p : ℕ) → HasFree u s → IsLeastUnfree u s p → ⊥
  free_inside p has_free least = both_ways _ least.away (has_free p least.free)

  no_way_out : (p q : ℕ) → closed.Closed u s → IsLeastWayOut u s p q → ⊥
  no_way_out p q is_closed least = let way = least.way in both_ways _ way.outside (is_closed.moves p q way.inside way.leads way.supplied)

  same_way : (p q x y : ℕ) → IsLeastWayOut u s p q → IsLeastWayOut u s x y → Open p q ≡ Open x y
  same_way p q x y a b = by (a.least x y b.way) (b.least p q a.way) where
    pairs : (p ≡ x) × (q ≡ y) → Open p q ≡ Open x y
    pairs same i = Open (same.0 i) (same.1 i)

    by : (p < x) ⊎ ((p ≡ x) × (q ≤ y)) → (x < p) ⊎ ((x ≡ p) × (y ≤ q)) → Open p q ≡ Open x y
    by (inl low) (inl high) = absurd (omega arith)
    by (inl low) (inr high) = let same = high.0 in absurd (omega arith)
    by (inr low) (inl high) = let same = low.0 in absurd (omega arith)
    by (inr low) (inr high) = let up = low.1 in let down = high.1 in pairs (low.0, omega arith)

  same_unfree : (p q : ℕ) → IsLeastUnfree u s p → IsLeastUnfree u s q → NotFree p ≡ NotFree q
  same_unfree p q a b =
      let up = a.least q b.free b.away in
      let down = b.least p a.free a.away in
      let same : p ≡ q = omega arith in
      ap NotFree same

  pub judgement_is_one : (v w : Verdict2) → Tells u s goals v → Tells u s goals w → v ≡ w
  judgement_is_one (Closed g) (Closed h) a b = ap Closed (same_Some g h (sym a.1 ∙ b.1))
  judgement_is_one (Closed g) (NotFree q) a b = absurd (free_inside q a.0.free b)
  judgement_is_one (Closed g) (Open x y) a b = absurd (no_way_out x y a.0 b.1)
  judgement_is_one (Closed g) LacksNone a b = absurd (found_passes (lacks u s) goals g a.1 b.1)
  judgement_is_one (NotFree p) (Closed h) a b = absurd (free_inside p b.0.free a)
  judgement_is_one (NotFree p) (NotFree q) a b = same_unfree p q a b
  judgement_is_one (NotFree p) (Open x y) a b = absurd (free_inside p b.0 a)
  judgement_is_one (NotFree p) LacksNone a b = absurd (free_inside p b.0.free a)
  judgement_is_one (Open p q) (Closed h) a b = absurd (no_way_out p q b.0 a.1)
  judgement_is_one (Open p q) (NotFree y) a b = absurd (free_inside y a.0 b)
  judgement_is_one (Open p q) (Open x y) a b = same_way p q x y a.1 b.1
  judgement_is_one (Open p q) LacksNone a b = absurd (no_way_out p q b.0 a.1)
  judgement_is_one LacksNone (Closed h) a b = absurd (found_passes (lacks u s) goals h b.1 a.1)
  judgement_is_one LacksNone (NotFree q) a b = absurd (free_inside q a.0.free b)
  judgement_is_one LacksNone (Open x y) a b = absurd (no_way_out x y a.0 b.1)
  judgement_is_one LacksNone LacksNone a b = refl
