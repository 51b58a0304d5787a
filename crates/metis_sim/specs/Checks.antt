-- What a `check` says.
--     goals_of u words      the goals that all the words ask for
--     said_of u c goals      the first of these goals that is short, or that the configuration holds them
--     check_reply u c words      the reply to a `check` with these words
use Rattle.std.specs.Prelude.{ℕ, ◌&&◌, nat_le, List, [], ◌∷◌, ◌++◌, length, Option, Some, None, if◌then◌else◌}
use Rattle.std.specs.List.{list_all}
use Rattle.std.specs.Option.{option_and_then}
use Rattle.metis_ids.specs.declared.goals.Goal.{Goal}
use Rattle.metis_universe.specs.Terms.{Config, Universe}
use Rattle.metis_replay.specs.Terms.{shortage}
use Rattle.metis_sim.specs.Words.{goal_of_word, is_pair_word}
use Rattle.metis_sim.specs.declared.reply.Reply.{Reply}
use Rattle.metis_sim.specs.declared.reply.Reply.TheVariants.{BadLine, Holds, Missing, Unknown}

-- at most 256 words, each of the form of a target
abbrev pub most_targets : ℕ
most_targets = 256

-- the goals of the words behind those that were found, if each asks for one
abbrev pub goals_behind : List Goal → Universe → List (List ℕ) → Option (List Goal)
goals_behind found u [] = Some found
goals_behind found u (word ∷ words) = option_and_then (λ g. goals_behind (found ++ g ∷ []) u words) (goal_of_word u word)

abbrev pub goals_of : Universe → List (List ℕ) → Option (List Goal)
goals_of u words = goals_behind [] u words

abbrev pub said_by : Option (Goal × ℕ × ℕ) → Reply
said_by None = Holds
said_by (Some s) = Missing s.0 s.1 s.2

abbrev pub said_of : Universe → Config → List Goal → Reply
said_of u c goals = said_by (shortage u c goals)

abbrev pub reply_on : Universe → Config → Option (List Goal) → Reply
reply_on u c None = Unknown
reply_on u c (Some goals) = said_of u c goals

abbrev pub check_reply : Universe → Config → List (List ℕ) → Reply
check_reply u c words =
    if nat_le (length words) most_targets && list_all is_pair_word words then reply_on u c (goals_of u words)
    else BadLine
