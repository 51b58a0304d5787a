-- A line of words and a number.
--     number_line words n      the words, a blank, the number and a line feed
use Rattle.std.specs.Prelude.{ℕ, List, ◌++◌, codes, decimal}

abbrev pub number_line : List ℕ → ℕ → List ℕ
number_line words n = words ++ (codes " " ++ (decimal n ++ codes "\n"))
