-- The goals of target words, word by word.
--     goal_of u target      the goal that the target's names mean in the universe, if they mean one
--     AreGoals u targets goals      the targets mean these goals, one each
--     IsNoGoal u targets i      target i means no goal, and each before it means one; they are counted from 0
--     IsFirstNoGoal first u targets why      the fault tells the same of the word of a target, if the first of them stands at that place
use Rattle.std.specs.Prelude.{◌≡◌, ℕ, ◌+◌, ◌<◌, List, Option, None, Some, IsSome, length, map, slice_get}
use Rattle.std.specs.Option.{option_and_then}
use Rattle.metis_ids.specs.declared.goals.Goal.{Goal}
use Rattle.metis_universe.specs.Terms.{Universe, goal_named}
use Rattle.metis_words.specs.Terms.{TargetName}
use Rattle.metis_inputs.specs.declared.stop.InputFault.{InputFault}
use Rattle.metis_inputs.specs.declared.stop.InputFault.TheVariants.{Word}

abbrev pub goal_of : Universe → TargetName → Option Goal
goal_of u target = goal_named u target.kind target.state

abbrev pub AreGoals : Universe → List TargetName → List Goal → Type 0
AreGoals u targets goals = map (goal_of u) targets ≡ map Some goals

pub record IsNoGoal (u : Universe) (targets : List TargetName) (i : ℕ) : Type 0 where
  pub within : i < length targets
  pub before : (j : ℕ) → j < i → IsSome (option_and_then (goal_of u) (slice_get targets j))
  pub here : option_and_then (goal_of u) (slice_get targets i) ≡ None

pub record IsFirstNoGoal (first : ℕ) (u : Universe) (targets : List TargetName) (why : InputFault) : Type 0 where
  pub target : ℕ
  pub at : why ≡ Word (first + target)
  pub is : IsNoGoal u targets target
