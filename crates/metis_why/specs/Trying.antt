-- The choice, as it is made: the pairs are tried one after the other.
--     without x q      x without the pair
--     IsTried u g q x z      q was tried in x: z is the greatest barred set of its other pairs, where that covers the goal, and else x
--     AreTried u g order x z      the pairs of the order were tried, from the last one to the first: z came of x
--     IsWaitedFor u x q r      q requires the port, and each pair that provides it is in x
--     IsFewest u x q r      of these ports r is the one that the fewest pairs provide, and of those that as few provide the first by number
use Rattle.std.specs.Prelude.{◌≡◌, ◌≤◌, ◌<◌, ◌==◌, ◌⊎◌, ◌&&◌, ℕ, Bool, not, List, [], ◌∷◌, length, IsTrue, if◌then◌else◌}
use Rattle.std.specs.List.{list_all}
use Rattle.metis_ids.specs.declared.goals.Goal.{Goal}
use Rattle.metis_universe.specs.Terms.{Universe, providers_of, requires}
use Rattle.metis_why.specs.Barred.{wanted_by}
use Rattle.metis_why.specs.Flags.{IsGreatest}

abbrev pub without : (ℕ → Bool) → ℕ → ℕ → Bool
without x q p = x p && not (q == p)

pub record IsTried (u : Universe) (g : Goal) (q : ℕ) (x z : ℕ → Bool) : Type 0 where
  pub rest : ℕ → Bool
  pub greatest : IsGreatest u (without x q) rest
  pub is : z ≡ (if list_all rest (wanted_by u g) then rest else x)

abbrev pub AreTried : Universe → Goal → List ℕ → (ℕ → Bool) → (ℕ → Bool) → Type 0
AreTried u g [] x z = x ≡ z
AreTried u g (q ∷ order) x z = (y : ℕ → Bool) × AreTried u g order x y × IsTried u g q y z

pub record IsWaitedFor (u : Universe) (x : ℕ → Bool) (q r : ℕ) : Type 0 where
  pub required : IsTrue (requires u q r)
  pub waits : IsTrue (list_all x (providers_of u r))

pub record IsFewest (u : Universe) (x : ℕ → Bool) (q r : ℕ) : Type 0 where
  pub waited_for : IsWaitedFor u x q r
  pub fewest : (s : ℕ) → IsWaitedFor u x q s → (length (providers_of u r) < length (providers_of u s)) ⊎ ((length (providers_of u r) ≡ length (providers_of u s)) × (r ≤ s))
