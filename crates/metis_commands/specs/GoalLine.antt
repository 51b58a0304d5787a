-- A line that names a goal.
use Rattle.std.specs.Prelude.{ℕ, List, ◌++◌, codes}

-- a word, and then that of a pair or of a goal
abbrev pub word_line : List ℕ → List ℕ → List ℕ
word_line start word = start ++ (codes " " ++ (word ++ codes "\n"))
