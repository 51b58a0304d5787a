-- The text of a crew's turns.
--     turn_tokens bytes      what stands between spaces, tabs, carriage returns and line feeds
--     turns_in bytes      the numbers that all tokens are, or the place, from 1, of the first token that is no number below 2^32
use Rattle.std.specs.Prelude.{ℕ, Bool, not, ◌==◌, ◌||◌, List, Option, Result, is_some, position}
use Rattle.std.specs.List.{filter, filter_map, slice_split}
use Rattle.std.specs.Result.{result_ok}
use Rattle.metis_tokens.specs.Terms.{number_in}
use Rattle.metis_universe.specs.Terms.{is_empty}
use Rattle.metis_words.specs.Terms.{unless_misfit}

abbrev pub is_blank : ℕ → Bool
is_blank byte = (byte == 32) || ((byte == 9) || ((byte == 13) || (byte == 10)))

abbrev pub turn_tokens : List ℕ → List (List ℕ)
turn_tokens bytes = filter (λ token. not (is_empty token)) (slice_split is_blank bytes)

-- the instance whose turn it is
abbrev pub turn_of : List ℕ → Option ℕ
turn_of token = result_ok (number_in token)

abbrev pub is_no_turn : List ℕ → Bool
is_no_turn token = not (is_some (turn_of token))

abbrev pub turns_of : List (List ℕ) → Result (List ℕ) ℕ
turns_of tokens = unless_misfit 1 (position is_no_turn tokens) (filter_map turn_of tokens)

abbrev pub turns_in : List ℕ → Result (List ℕ) ℕ
turns_in bytes = turns_of (turn_tokens bytes)
