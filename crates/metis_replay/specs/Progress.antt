-- How far a replay has come.
--     Progress      the universe, the configuration, how many actions were fed, and the first that was refused with its fault
--     start u, fed s a, after_feeding u actions      before the first action;  after one more;  after a list of them
--     first_short u c goals      the first of the goals that fewer instances serve than it has places;  shortage u c goals, with how many do and how many places
--     verdict s goals      what is said where these goals were asked for
--     IsSound u c refused      the configuration is the universe's and correct, and the numbers of the fault are the universe's
--     IsVerdictOf u v      the verdict's fault or goal is the universe's
use Rattle.std.specs.Prelude.{ℕ, ◌+◌, nat_lt, List, [], ◌∷◌, Option, Some, None, option_map, IfSome, ⊤}
use Rattle.std.specs.List.{find}
use Rattle.std.specs.Option.{option_map_or}
use Rattle.metis_ids.specs.declared.actions.Action.{Action}
use Rattle.metis_ids.specs.declared.goals.Goal.{Goal}
use Rattle.metis_universe.specs.Terms.{Config, Correct, IsGoalOf, Universe, after, empty, places_of, serving}
use Rattle.metis_config.specs.Terms.{IsOver}
use Rattle.metis_actions.specs.Terms.{IsFaultOf, fault_of}
use Rattle.metis_actions.specs.declared.faults.AFault.{AFault}
use Rattle.metis_replay.specs.declared.verdict.Verdict.{Verdict}
use Rattle.metis_replay.specs.declared.verdict.Verdict.TheVariants.{Good, Bad, Missing}

pub record Progress : Type 0 where
  pub universe : Universe
  pub config : Config
  pub number : ℕ
  pub refused : Option (ℕ × AFault)

abbrev pub progress_of : Universe → Config → ℕ → Option (ℕ × AFault) → Progress
progress_of u c n refused = record { universe = u; config = c; number = n; refused = refused }

pub record IsSound (u : Universe) (c : Config) (refused : Option (ℕ × AFault)) : Type 0 where
  pub correct : Correct u c
  pub over : IsOver u c
  pub fault : IfSome refused (λ first. IsFaultOf u first.1)

abbrev pub start : Universe → Progress
start u = progress_of u empty 0 None

-- what an action leaves: a refused one changes nothing
abbrev pub left_by : Universe → Config → Action → Config
left_by u c a = option_map_or (λ _. c) (fault_of u c a) (after u c a)

-- once an action was refused, the next ones are only counted; one that has a fault is refused; else it is done
abbrev pub fed_by : Progress → Action → Option (ℕ × AFault) → Option AFault → Progress
fed_by s a (Some first) fault = record s { number = s.number + 1 }
fed_by s a None (Some f) = record s { number = s.number + 1; refused = Some (s.number + 1, f) }
fed_by s a None None = record s { number = s.number + 1; config = after s.universe s.config a }

abbrev pub fed : Progress → Action → Progress
fed s a = fed_by s a s.refused (fault_of s.universe s.config a)

abbrev pub fed_all : Progress → List Action → Progress
fed_all s [] = s
fed_all s (a ∷ rest) = fed_all (fed s a) rest

abbrev pub after_feeding : Universe → List Action → Progress
after_feeding u actions = fed_all (start u) actions

abbrev pub first_short : Universe → Config → List Goal → Option Goal
first_short u c goals = find (λ g. nat_lt (serving u c g) (places_of goals g)) goals

-- that goal, with how many instances serve it and how many places it has
abbrev pub shortage : Universe → Config → List Goal → Option (Goal × ℕ × ℕ)
shortage u c goals = option_map (λ g. (g, serving u c g, places_of goals g)) (first_short u c goals)

abbrev pub verdict_by : Option (ℕ × AFault) → Option (Goal × ℕ × ℕ) → Verdict
verdict_by (Some first) short = Bad first.0 first.1
verdict_by None (Some s) = Missing s.0 s.1 s.2
verdict_by None None = Good

abbrev pub verdict : Progress → List Goal → Verdict
verdict s goals = verdict_by s.refused (shortage s.universe s.config goals)

abbrev pub IsVerdictOf : Universe → Verdict → Type 0
IsVerdictOf u Good = ⊤
IsVerdictOf u (Bad k f) = IsFaultOf u f
IsVerdictOf u (Missing g have want) = IsGoalOf u g
