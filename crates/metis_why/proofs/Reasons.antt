-- What the flags of ports and pairs say of a pair.
use Rattle.std.proofs.Common.{◌≡◌, ℕ, Bool, true, false, List, ap, refl}
use Rattle.std.specs.List.{list_all}
use Rattle.std.proofs.lemmas.Bool.{both_ways, false_from_ne_true, true_from_ne_false}
use Rattle.metis_universe.proofs.Correctness.{all_from_has, all_has}
use Rattle.metis_universe.specs.Terms.{Universe, has, is_free, next_of, providers_of, provides, requires}
use Rattle.metis_why.proofs.Soundness.{free_not_held, kept_by, moved_not_held, passes_of}
use Rattle.metis_why.specs.Terms.{AreGiven, AreLed, IsBarred, IsInside, IsReason, before_of}
use Rattle.metis_refusal.specs.Terms.{flag}
use Rattle.metis_why.specs.declared.reason.Reason.{Reason}
use Rattle.metis_why.specs.declared.reason.Reason.TheVariants.{Needs, Comes}

pub not_inside : (x y : ℕ → Bool) (p : ℕ) → IsInside y x → x p ≡ false → y p ≡ false
not_inside x y p inside away = false_from_ne_true (y p) (λ there. both_ways (x p) away (inside p there))

pub all_inside : (x y : ℕ → Bool) (xs : List ℕ) → IsInside y x → list_all y xs ≡ true → list_all x xs ≡ true
all_inside x y xs inside all = all_from_has x xs (λ p there. inside p (all_has y p xs all there))

module _ (u : Universe) (x : ℕ → Bool) (given led : List Bool) (g : AreGiven u x given) (l : AreLed u x led) where
  pub needs_reason : (q r : ℕ) → requires u q r ≡ true → flag given r ≡ false → IsReason u x q (Needs r)
  needs_reason q r needs off = record {
    own = needs;
    waits = all_from_has x (providers_of u r) (λ y there.
        let at = passes_of u (λ z. provides u z r) y there in
        true_from_ne_false (x y) (λ away. both_ways (flag given r) off (g.by_each y r at.1 away at.0)));
  }

  pub comes_reason : (q : ℕ) → flag led q ≡ false → is_free u q ≡ false → IsReason u x q Comes
  comes_reason q off bound = record {
    own = bound;
    waits = all_from_has x (before_of u q) (λ y there.
        let at = passes_of u (λ z. has (next_of u z) q) y there in
        true_from_ne_false (x y) (λ away. both_ways (flag led q) off (l.by_each y q at.1 away at.0)));
  }

  pub led_not_held : (q : ℕ) (y : ℕ → Bool) → flag led q ≡ true → ((r : ℕ) → requires u q r ≡ true → flag given r ≡ true) → IsBarred u y → IsInside y x → y q ≡ false
  led_not_held q y on met barred inside =
      let from = l.by_some q on in
      false_from_ne_true (y q) (moved_not_held u y barred from.0 q from.1 (not_inside x y from.0 inside from.2) from.3
      (λ r needs. let by = g.by_some r (met r needs) in (by.0, by.1, not_inside x y by.0 inside by.2, by.3)))

pub free_no : (u : Universe) (y : ℕ → Bool) (q : ℕ) → is_free u q ≡ true → IsBarred u y → y q ≡ false
free_no u y q free barred = false_from_ne_true (y q) (free_not_held u y barred q free)

module _ (u : Universe) (x : ℕ → Bool) (given led : List Bool) (g : AreGiven u x given) (l : AreLed u x led) where
  needs_missing : (q r : ℕ) → IsReason u x q (Needs r) → flag given r ≡ false
  needs_missing q r why = false_from_ne_true (flag given r) (λ on.
      let by = g.by_some r on in
      both_ways (x by.0) by.2 (all_has x by.0 (providers_of u r) why.waits (kept_by u (λ z. provides u z r) by.0 by.1 by.3)))

  pub comes_unled : (q : ℕ) → IsReason u x q Comes → flag led q ≡ false
  comes_unled q why = false_from_ne_true (flag led q) (λ on.
      let by = l.by_some q on in
      both_ways (x by.0) by.2 (all_has x by.0 (before_of u q) why.waits (kept_by u (λ z. has (next_of u z) q) by.0 by.1 by.3)))

  pub only_needs : (q p : ℕ) → ((r : ℕ) → requires u q r ≡ true → flag given r ≡ false → r ≡ p) → (IsReason u x q Comes → ⊥) → (reason : Reason) → IsReason u x q reason → reason ≡ Needs p
  only_needs q p one lost (Needs r) why = ap Needs (one r why.own (needs_missing q r why))
  only_needs q p one lost Comes why = absurd (lost why)

  pub only_comes : (q : ℕ) → ((r : ℕ) → requires u q r ≡ true → flag given r ≡ true) → (reason : Reason) → IsReason u x q reason → reason ≡ Comes
  only_comes q all (Needs r) why = absurd (both_ways (flag given r) (needs_missing q r why) (all r why.own))
  only_comes q all Comes why = refl
