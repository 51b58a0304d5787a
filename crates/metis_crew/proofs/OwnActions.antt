-- The numbers of an instance's actions.
use Rattle.std.proofs.Common.{◌≡◌, ℕ, zero, suc, ◌<◌, ◌≤◌, true, false, ◌&&◌, List, Option, Some, None, refl, sym, ◌∙◌, subst, arith, length}
use Rattle.std.specs.Prelude.{slice_get}
use Rattle.std.specs.Option.{option_map_or}
use Rattle.std.proofs.lemmas.Bool.{false≢true, and_parts, and_from, eq-eqb, eqb-true}
use Rattle.std.proofs.lemmas.List.FromFn.{length-range_with_len}
use Rattle.metis_ids.specs.Terms.{actor_of}
use Rattle.metis_ids.specs.declared.actions.Action.{Action}
use Rattle.metis_ids.proofs.Lists.{filter_short, has_range}
use Rattle.metis_universe.proofs.Places.{action_below, place_below}
use Rattle.metis_universe.proofs.Ranges.{in_range}
use Rattle.metis_universe.proofs.Rounds.{has-filter}
use Rattle.metis_universe.specs.Terms.{action_at, has, numbers}
use Rattle.metis_waits.specs.Terms.{is_by}
use Rattle.metis_crew.proofs.Fronts.{IsRising, has_at, rising_filter}
use Rattle.metis_crew.specs.Terms.{actor_at, is_own, own_numbers}

pub own_has : (A : List Action) (z k : ℕ) → has (own_numbers A z) k ≡ (is_own A z k && has (numbers A) k)
own_has A z k = has-filter (is_own A z) k (numbers A)

pub own_actor : (A : List Action) (z k : ℕ) → is_own A z k ≡ true → actor_at A k ≡ z
own_actor A z k h = by_action (action_at A k) h where
  by_action : (o : Option Action) → option_map_or (is_by z) o false ≡ true → option_map_or actor_of o 0 ≡ z
  by_action None e = absurd (false≢true e)
  by_action (Some a) e = eqb-true (actor_of a) z e

pub place_in : (A : List Action) (k : ℕ) → has (numbers A) k ≡ true → (i : ℕ) × (k ≡ suc i) × (i < length A)
place_in A zero h = let range = in_range 1 (length A) zero h in absurd (omega (arith, range.0))
place_in A (suc i) h = let range = in_range 1 (length A) (suc i) h in (i, refl, omega (arith, range.1))

pub own_self : (A : List Action) (k : ℕ) → has (numbers A) k ≡ true → is_own A (actor_at A k) k ≡ true
own_self A k h =
    let at = place_in A k h in
    let here = action_below A at.0 at.2 in
    subst (λ n. is_own A (actor_at A n) n ≡ true) (sym at.1)
    (by_action (slice_get A at.0) here.0 here.1) where
      by_action : (o : Option Action) (a : Action) → o ≡ Some a → option_map_or (is_by (option_map_or actor_of o 0)) o false ≡ true
      by_action None a e = absurd (none_is a e) where
        none_is : (a : Action) → None ≡ Some a → ⊥
        none_is a h = cc
      by_action (Some b) a e = eq-eqb (actor_of b) (actor_of b) refl

-- an action that is some instance's has a number
pub own_number : (A : List Action) (z k : ℕ) → is_own A z k ≡ true → has (numbers A) k ≡ true
own_number A z zero h = absurd (false≢true h)
own_number A z (suc i) h = by_action (slice_get A i) refl h where
  by_action : (o : Option Action) → slice_get A i ≡ o → option_map_or (is_by z) o false ≡ true → has (numbers A) (suc i) ≡ true
  by_action None e own = absurd (false≢true own)
  by_action (Some a) e own = let low = place_below A i a e in has_range 1 (length A) (suc i) (omega arith) (omega arith)

pub own_listed : (A : List Action) (z k : ℕ) → is_own A z k ≡ true → has (own_numbers A z) k ≡ true
own_listed A z k h = own_has A z k ∙ and_from _ _ h (own_number A z k h)

pub rising : (A : List Action) (z : ℕ) → IsRising 0 (own_numbers A z)
rising A z = rising_filter (is_own A z) 0 1 (length A) (omega arith)

pub own_next : (A : List Action) (z c k : ℕ) → slice_get (own_numbers A z) c ≡ Some k → (is_own A z k ≡ true) × (has (numbers A) k ≡ true)
own_next A z c k h = and_parts _ _ (sym (own_has A z k) ∙ has_at (own_numbers A z) c k h)

pub own_short : (A : List Action) (z : ℕ) → length (own_numbers A z) ≤ length A
own_short A z = let short = filter_short (is_own A z) (numbers A) in let long = length-range_with_len 1 (length A) in omega arith
