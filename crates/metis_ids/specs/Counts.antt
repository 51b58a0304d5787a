-- How often a number stands in a list, and the greatest number of a list.
--     occurrences n xs      how often n stands in xs
--     greatest xs      the greatest of the numbers, and 0 of none
use Rattle.std.specs.Prelude.{ℕ, ◌==◌, List, [], ◌∷◌, length, max}
use Rattle.std.specs.List.{filter}

abbrev pub occurrences : ℕ → List ℕ → ℕ
occurrences n xs = length (filter (λ x. x == n) xs)

abbrev pub greatest : List ℕ → ℕ
greatest [] = 0
greatest (x ∷ xs) = max x (greatest xs)
