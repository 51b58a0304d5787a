-- The lines of a script.
--     script_lines bytes      the lines of a script: it is cut at each line feed, and a last piece without one is a line if it is not empty
use Rattle.std.specs.Prelude.{ℕ, List, [], ◌∷◌, if◌then◌else◌}
use Rattle.std.specs.List.{slice_split}
use Rattle.metis_tokens.specs.Cursor.{is_feed}
use Rattle.metis_universe.specs.Terms.{is_empty}

-- the pieces, but a last one that is empty
abbrev pub without_empty_end : List (List ℕ) → List (List ℕ)
without_empty_end [] = []
without_empty_end (piece ∷ []) = if is_empty piece then [] else piece ∷ []
without_empty_end (piece ∷ next ∷ pieces) = piece ∷ without_empty_end (next ∷ pieces)

abbrev pub script_lines : List ℕ → List (List ℕ)
script_lines bytes = without_empty_end (slice_split is_feed bytes)
