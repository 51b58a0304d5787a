-- The first of some rooms that is large enough.
--     first_place size xs      the place of the first room that is at least the size
use Rattle.std.specs.Prelude.{◌+◌, ℕ, cond, List, [], ◌∷◌, Option, None, Some, nat_le, option_map}

abbrev pub first_place : ℕ → List ℕ → Option ℕ
first_place size [] = None
first_place size (x ∷ xs) = cond (nat_le size x) (Some 0) (option_map (λ i. i + 1) (first_place size xs))
