-- The given instances as a table.
--     given_in rows r      those of the port, where the rows are those of the ports in order
use Rattle.std.specs.Prelude.{ℕ, List, []}
use Rattle.std.specs.List.{slice_index_or}

abbrev pub given_in : List (List ℕ) → ℕ → List ℕ
given_in rows r = slice_index_or rows r []
