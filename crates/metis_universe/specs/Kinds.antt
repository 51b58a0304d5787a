-- The types of a universe, as they are kept.
--     kind_of name initial      a type
--     kinds_of names initials      a type for each name, with the initial pair at its place, or the first pair where none stands there
use Rattle.std.specs.Prelude.{ℕ, List, [], ◌∷◌}
use Rattle.metis_universe.specs.Universe.{Kind}

abbrev pub kind_of : List ℕ → ℕ → Kind
kind_of name initial = record { name = name; initial = initial }

abbrev pub kinds_of : List (List ℕ) → List ℕ → List Kind
kinds_of [] initials = []
kinds_of (name ∷ names) [] = kind_of name 0 ∷ kinds_of names []
kinds_of (name ∷ names) (p ∷ initials) = kind_of name p ∷ kinds_of names initials
