-- Paths of numbers.
--     path_by before n p      the numbers on the way to p, each before the next one, with at most n before p
use Rattle.std.specs.Prelude.{ℕ, zero, suc, List, [], ◌∷◌, ◌++◌, Option}
use Rattle.std.specs.Option.{option_map_or}

abbrev pub path_by : (ℕ → Option ℕ) → ℕ → ℕ → List ℕ
path_by before zero p = p ∷ []
path_by before (suc n) p = option_map_or (path_by before n) (before p) [] ++ p ∷ []
