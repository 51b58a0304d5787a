-- The tokens of a line of a script.
--     number_of t      the number that the token is, below 2^32
--     is_pair_word t      the token is two names with a colon between them
--     goal_of_word u t      the goal that they ask for, if it is there
use Rattle.std.specs.Prelude.{ℕ, Bool, List, Option, is_some}
use Rattle.std.specs.Option.{option_and_then}
use Rattle.std.specs.Result.{result_ok}
use Rattle.metis_tokens.specs.Terms.{number_in}
use Rattle.metis_ids.specs.declared.goals.Goal.{Goal}
use Rattle.metis_universe.specs.Terms.{Universe, goal_named, pair_names}

abbrev pub number_of : List ℕ → Option ℕ
number_of t = result_ok (number_in t)

abbrev pub is_pair_word : List ℕ → Bool
is_pair_word t = is_some (pair_names t)

abbrev pub goal_of_word : Universe → List ℕ → Option Goal
goal_of_word u t = option_and_then (λ names. goal_named u names.0 names.1) (pair_names t)
