-- Pairs that each barred set has that covers the goal.
use Rattle.std.proofs.Common.{◌≡◌, ◌∙◌, ℕ, Bool, true, false, List, set, sym, subst, inl, inr}
use Rattle.std.proofs.lemmas.Bool.{cases_eq}
use Rattle.std.proofs.lemmas.List.{get_or-set_other}
use Rattle.std.specs.List.{All}
use Rattle.metis_ids.specs.declared.goals.Goal.{Goal}
use Rattle.metis_universe.proofs.Correctness.{all_has}
use Rattle.metis_universe.specs.Terms.{Universe, has}
use Rattle.metis_why.proofs.Left.{missed_less}
use Rattle.metis_why.proofs.Reasons.{all_inside}
use Rattle.metis_why.specs.Terms.{AreForced, AreMarked, IsInside, IsMissed, IsReason, named_by, wanted_by}
use Rattle.metis_why.specs.declared.reason.Reason.{Reason}
use Rattle.metis_ids.proofs.Lists.{all_from}

reason_inside : (u : Universe) (x y : ℕ → Bool) (q : ℕ) (reason : Reason) → IsInside y x → IsReason u y q reason → IsReason u x q reason
reason_inside u x y q reason inside why = record { own = why.own; waits = all_inside x y (named_by u q reason) inside why.waits }

pub wanted_missed : (u : Universe) (g : Goal) (x : ℕ → Bool) → All (IsMissed u g x) (wanted_by u g)
wanted_missed u g x = all_from (IsMissed u g x) (wanted_by u g) (λ p there y barred covers inside. all_has y p (wanted_by u g) covers there)

pub named_missed : (u : Universe) (g : Goal) (x : ℕ → Bool) (q : ℕ) (only : Reason) → IsMissed u g x q → ((reason : Reason) → IsReason u x q reason → reason ≡ only) → All (IsMissed u g x) (named_by u q only)
named_missed u g x q only missed one = all_from (IsMissed u g x) (named_by u q only) (λ p there y barred covers inside.
    let why = barred q (missed y barred covers inside) in
    all_has y p (named_by u q why.0) why.1.waits
    (subst (λ r. has (named_by u q r) p ≡ true) (sym (one why.0 (reason_inside u x y q why.0 inside why.1))) there))

pub forced_less : (u : Universe) (g : Goal) (x z : ℕ → Bool) (forced : List Bool) → IsInside z x → AreForced u g x forced → AreForced u g z forced
forced_less u g x z forced inside all q on = missed_less u g x z q inside (all q on)

-- one pair more
pub forced_more : (u : Universe) (g : Goal) (x : ℕ → Bool) (forced : List Bool) (p : ℕ) → AreForced u g x forced → IsMissed u g x p → AreForced u g x (set forced p true)
forced_more u g x forced p all missed q on = elim (cases_eq q p) [
  | inl same ↦ subst (IsMissed u g x) (sym same) missed
  | inr other ↦ all q (sym (get_or-set_other forced p q true false other) ∙ on)
]

pub marked_at : (u : Universe) (g : Goal) (x : ℕ → Bool) (l k : List ℕ) (f h : List Bool) → l ≡ k → f ≡ h → AreMarked u g x k h → AreMarked u g x l f
marked_at u g x l k f h same_list same_flags marked = subst (λ v. AreMarked u g x v f) (sym same_list) (subst (λ v. AreMarked u g x k v) (sym same_flags) marked)
