-- What may go, and what its removal does.
--     MayGo u goes c      what stays of c is served by what stays
--     AreFree xs name      the names of a scaffold: no two are alike, and the actions make none of them
--     taking u goes name xs, CanTake u goes name xs      the removal of what goes of what the actions leave;  it can go on after them
--     IsWithout u goes c d      d is c without what goes, and without the bindings that nothing requires
--     GoesApart u goes c      no binding leads from what goes to what stays or back, and those of what stays are required
--     Removing u goes name c a      the action ends one of the first bindings, is done by or to what goes, or is of the scaffold
use Rattle.std.specs.Prelude.{ℕ, ◌≡◌, ◌⊎◌, ◌&&◌, Bool, false, not, cond, List, IsTrue, IsFalse, None}
use Rattle.std.specs.Option.{option_map_or}
use Rattle.metis_ids.specs.declared.actions.Action.{Action}
use Rattle.metis_ids.specs.declared.actions.Action.TheVariants.{New, Delete, Bind, Unbind, Move}
use Rattle.metis_universe.specs.Terms.{Config, Correct, IsSteadfastRun, Universe, after_all, empty, is_bound, pair_of, requires}
use Rattle.metis_rollout.specs.Rollout.{among, ends_first, removal}
use Rattle.metis_rollout.specs.Standing.{is_made}

-- each port that a staying instance's pair requires has as many different providers that stay as the pair demands
pub record MayGo (u : Universe) (goes : ℕ → Bool) (c : Config) : Type 0 where
  pub served : Correct u (among (λ z. not (goes z)) c)

pub record AreFree (xs : List Action) (name : ℕ → ℕ) : Type 0 where
  pub apart : (k j : ℕ) → name k ≡ name j → k ≡ j
  pub free : (k : ℕ) → IsFalse (is_made xs (name k))

abbrev pub taking : Universe → (ℕ → Bool) → (ℕ → ℕ) → List Action → List Action
taking u goes name xs = removal u goes name (after_all u empty xs)

pub record CanTake (u : Universe) (goes : ℕ → Bool) (name : ℕ → ℕ) (xs : List Action) : Type 0 where
  pub steady : IsSteadfastRun u xs
  pub may : MayGo u goes (after_all u empty xs)
  pub free : AreFree xs name

pub record IsWithout (u : Universe) (goes : ℕ → Bool) (c d : Config) : Type 0 where
  pub pairs : (z : ℕ) → pair_of d z ≡ cond (goes z) None (pair_of c z)
  pub bindings : (r z y : ℕ) → is_bound d r z y ≡ (not (goes z) && (not (goes y) && (option_map_or (λ p. requires u p r) (pair_of c z) false && is_bound c r z y)))

pub record GoesApart (u : Universe) (goes : ℕ → Bool) (c : Config) : Type 0 where
  pub apart : (r z y : ℕ) → IsTrue (is_bound c r z y) → goes z ≡ goes y
  pub required : (r z y : ℕ) → IsTrue (is_bound c r z y) → IsFalse (goes z) → IsTrue (option_map_or (λ p. requires u p r) (pair_of c z) false)

-- whether it is one of the scaffold's names
abbrev pub IsNamed : (ℕ → ℕ) → ℕ → Type 0
IsNamed name z = (k : ℕ) × (name k ≡ z)

-- no instance that stays is made, moved or deleted, and none acts, but to end its bindings to what goes and those that nothing requires
abbrev pub Removing : Universe → (ℕ → Bool) → (ℕ → ℕ) → Config → Action → Type 0
Removing u goes name c (New z t) = IsNamed name z
Removing u goes name c (Delete z) = IsTrue (goes z) ⊎ IsNamed name z
Removing u goes name c (Bind r z y) = IsTrue (goes z) ⊎ IsNamed name z
Removing u goes name c (Unbind r z y) = (IsTrue (goes z) ⊎ IsNamed name z) ⊎ IsTrue (ends_first u goes c (r, z, y))
Removing u goes name c (Move z p q) = IsNamed name z
