-- Lists of numbers.
--     has xs n      whether n is in the list
use Rattle.std.specs.Prelude.{ℕ, ◌==◌, Bool, List}
use Rattle.std.specs.List.{list_any}

abbrev pub has : List ℕ → ℕ → Bool
has xs n = list_any (λ x. x == n) xs
