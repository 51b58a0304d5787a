-- The line of a target of which there are too few instances.
use Rattle.std.specs.Prelude.{ℕ, List, ◌++◌, codes, decimal}

-- the word of the target, how many instances there are, and how many there should be
abbrev pub missing_line : List ℕ → ℕ → ℕ → List ℕ
missing_line word have want = codes "missing " ++ (word ++ (codes " have " ++ (decimal have ++ (codes " want " ++ (decimal want ++ codes "\n")))))
