-- Orders of a rollout's actions in which nothing is removed before all that is new stands.
--     border old fresh      the number of the last action of the renumbered fresh list, behind which the removal begins
--     HasEach from to ks      each number above `from` and up to `to` is one of ks
--     IsGuardedAt from last ks      no number past `last` comes before one above `from` and up to `last`
--     IsGuarded old fresh ks      no action of the removal comes before the last action of the renumbered fresh list
--     takes_from c a      whether the action unbinds, moves or deletes something that stands in c
--     TakesLate c all from last ks      no number past `last`, of one of all actions that takes something from c, comes before one above `from` and up to `last`
--     StandsIn d c      all that stands in d stands in c: each instance in its pair, with its bindings
--     NeverLacks u old fresh      in each order that keeps the waits and takes late from what the old list leaves, at each moment after the old actions, all that it leaves stands, or all that the fresh one leaves does
--     GoesOnGuarded u old fresh      each order of the old actions that keeps their waits goes on to a guarded one of all actions
--     Spares c a, IsBeside u old new      the action moves, deletes and ends nothing that stands in c;  the new actions do so with what the old ones leave
--     KeepsStanding goes c e d      what stays of c stands in d, with its bindings that e has too
use Rattle.std.specs.Prelude.{ℕ, ◌≡◌, ◌⊎◌, ◌+◌, ◌<◌, ◌≤◌, Bool, false, List, ◌∷◌, ◌++◌, length, IsTrue, IsFalse, Some, None, ⊤}
use Rattle.std.specs.List.{All}
use Rattle.std.specs.Option.{is_some}
use Rattle.metis_ids.specs.declared.actions.Action.{Action}
use Rattle.metis_ids.specs.declared.actions.Action.TheVariants.{New, Delete, Bind, Unbind, Move}
use Rattle.metis_universe.specs.Terms.{Config, IsKept, IsSteadfastRun, Universe, action_at, after_all, empty, has, is_bound, is_complete, pair_of, picked}
use Rattle.metis_rollout.specs.Rollout.{renumbered, rollout}

abbrev pub border : List Action → List Action → ℕ
border old fresh = length old + length fresh

abbrev pub HasEach : ℕ → ℕ → List ℕ → Type 0
HasEach from to ks = (m : ℕ) → from < m → m ≤ to → IsTrue (has ks m)

abbrev pub IsGuardedAt : ℕ → ℕ → List ℕ → Type 0
IsGuardedAt from last ks = (front rest : List ℕ) (k : ℕ) → ks ≡ front ++ k ∷ rest → last < k → HasEach from last front

-- whatever stands before an action of the removal has all fresh ones
abbrev pub IsGuarded : List Action → List Action → List ℕ → Type 0
IsGuarded old fresh ks = IsGuardedAt (length old) (border old fresh) ks

abbrev pub takes_from : Config → Action → Bool
takes_from c (New z t) = false
takes_from c (Delete z) = is_some (pair_of c z)
takes_from c (Bind r z y) = false
takes_from c (Unbind r z y) = is_bound c r z y
takes_from c (Move z p q) = is_some (pair_of c z)

-- whatever stands before an action that takes something from c has all fresh ones
abbrev pub TakesLate : Config → List Action → ℕ → ℕ → List ℕ → Type 0
TakesLate c all from last ks =
    (front rest : List ℕ) (k : ℕ) (a : Action) → ks ≡ front ++ k ∷ rest → last < k → action_at all k ≡ Some a → IsTrue (takes_from c a)
    → HasEach from last front

pub record StandsIn (d c : Config) : Type 0 where
  pub pairs : (z p : ℕ) → pair_of d z ≡ Some p → pair_of c z ≡ Some p
  pub bindings : (r z y : ℕ) → IsTrue (is_bound d r z y) → IsTrue (is_bound c r z y)

abbrev pub NeverLacks : Universe → List Action → List Action → Type 0
NeverLacks u old fresh =
    (front rest : List ℕ) → IsKept (rollout u old fresh) (front ++ rest)
    → TakesLate (after_all u empty old) (rollout u old fresh) (length old) (border old fresh) (front ++ rest) → HasEach 0 (length old) front
    → let c = after_all u empty (picked (rollout u old fresh) front) in
    StandsIn (after_all u empty old) c ⊎ StandsIn (after_all u empty (renumbered old fresh)) c

abbrev pub GoesOnGuarded : Universe → List Action → List Action → Type 0
GoesOnGuarded u old fresh =
    (ks : List ℕ) → IsKept old ks
    → (more : List ℕ) × IsKept (rollout u old fresh) (ks ++ more) × IsTrue (is_complete (rollout u old fresh) (ks ++ more)) × IsGuarded old fresh (ks ++ more)

-- ---- any new actions beside what stands, and then a removal

abbrev pub Spares : Config → Action → Type 0
Spares c (New z t) = ⊤
Spares c (Delete z) = pair_of c z ≡ None
Spares c (Bind r z y) = ⊤
Spares c (Unbind r z y) = IsFalse (is_bound c r z y)
Spares c (Move z p q) = pair_of c z ≡ None

pub record IsBeside (u : Universe) (old new : List Action) : Type 0 where
  pub steady : IsSteadfastRun u (old ++ new)
  pub spares : All (Spares (after_all u empty old)) new

pub record KeepsStanding (goes : ℕ → Bool) (c e d : Config) : Type 0 where
  pub pairs : (z p : ℕ) → IsFalse (goes z) → pair_of c z ≡ Some p → pair_of d z ≡ Some p
  pub bindings : (r z y : ℕ) → IsTrue (is_bound c r z y) → IsTrue (is_bound e r z y) → IsTrue (is_bound d r z y)
