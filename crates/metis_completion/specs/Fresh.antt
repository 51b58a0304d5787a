-- What fresh actions do.
--     IsNewOrGiven given new r y      new makes y, or y is given for the port
--     KeepsTo given new a      the action is of an instance that new makes, and binds or unbinds it at such an instance or at a given one
--     is_tie_action a      whether the action makes or ends a binding
--     besides_ties actions      the others
--     entered u z actions      the pairs into which the actions put the instance, in order
--     EntersOnce u actions      no instance is put into a pair twice
use Rattle.std.specs.Prelude.{ℕ, ◌==◌, ◌⊎◌, Bool, true, false, not, List, Option, Some, None, IsTrue, filter, if◌then◌else◌}
use Rattle.std.specs.List.{filter_map}
use Rattle.metis_ids.specs.declared.actions.Action.{Action}
use Rattle.metis_ids.specs.declared.actions.Action.TheVariants.{New, Delete, Bind, Unbind, Move}
use Rattle.metis_universe.specs.Terms.{AreDifferent, Universe, has, initial_of}
use Rattle.metis_rollout.specs.Terms.{is_made}

abbrev pub IsNewOrGiven : (ℕ → List ℕ) → List Action → ℕ → ℕ → Type 0
IsNewOrGiven given new r y = IsTrue (is_made new y) ⊎ IsTrue (has (given r) y)

abbrev pub KeepsTo : (ℕ → List ℕ) → List Action → Action → Type 0
KeepsTo given new (New z t) = IsTrue (is_made new z)
KeepsTo given new (Delete z) = IsTrue (is_made new z)
KeepsTo given new (Bind r z y) = IsTrue (is_made new z) × IsNewOrGiven given new r y
KeepsTo given new (Unbind r z y) = IsTrue (is_made new z) × IsNewOrGiven given new r y
KeepsTo given new (Move z p q) = IsTrue (is_made new z)

abbrev pub is_tie_action : Action → Bool
is_tie_action (New z t) = false
is_tie_action (Delete z) = false
is_tie_action (Bind r z y) = true
is_tie_action (Unbind r z y) = true
is_tie_action (Move z p q) = false

abbrev pub besides_ties : List Action → List Action
besides_ties actions = filter (λ a. not (is_tie_action a)) actions

-- the pair into which the action puts the instance
abbrev pub entered_by : Universe → ℕ → Action → Option ℕ
entered_by u z (New x t) = if x == z then Some (initial_of u t) else None
entered_by u z (Delete x) = None
entered_by u z (Bind r x y) = None
entered_by u z (Unbind r x y) = None
entered_by u z (Move x p q) = if x == z then Some q else None

abbrev pub entered : Universe → ℕ → List Action → List ℕ
entered u z actions = filter_map (entered_by u z) actions

abbrev pub EntersOnce : Universe → List Action → Type 0
EntersOnce u actions = (z : ℕ) → AreDifferent (entered u z actions)
