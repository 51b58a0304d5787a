-- Lines that name one another in a circle. Lines are known by their places, from 0.
--     IsNaming u lines i j      the line at place i names the pair of the line at place j
--     AreNamed u lines i places back      line i names the pair of the first of these places, each of them that of the next, and the last that of the place back
--     IsCircle u lines places      each of these places names the pair of the next, and the last that of the first; there is at least one
use Rattle.std.specs.Prelude.{◌≡◌, ℕ, List, [], ◌∷◌, Some, slice_get, IsTrue}
use Rattle.metis_universe.specs.Terms.{Universe, has}
use Rattle.metis_why.specs.Barred.{named_by}
use Rattle.metis_why.specs.declared.reason.Line.{Line}

pub record IsNaming (u : Universe) (lines : List Line) (i j : ℕ) : Type 0 where
  pub naming : Line
  pub named : Line
  pub naming_at : slice_get lines i ≡ Some naming
  pub named_at : slice_get lines j ≡ Some named
  pub names : IsTrue (has (named_by u naming.pair naming.reason) named.pair)

abbrev pub AreNamed : Universe → List Line → ℕ → List ℕ → ℕ → Type 0
AreNamed u lines i [] back = IsNaming u lines i back
AreNamed u lines i (j ∷ places) back = IsNaming u lines i j × AreNamed u lines j places back

abbrev pub IsCircle : Universe → List Line → List ℕ → Type 0
IsCircle u lines [] = ⊥
IsCircle u lines (i ∷ places) = AreNamed u lines i places i
