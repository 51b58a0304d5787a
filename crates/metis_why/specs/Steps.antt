-- How one comes from a goal to the lines and the pairs behind it.
--     some_names u lines p      one of the lines names the pair
--     IsCalledFor u g lines p      the goal wants the pair, or one of the lines names it
--     IsWithinCost u x g n p      a way from the goal to p costs n at most
--     IsFromNearToFar u x g order      what stands before a pair that is within the cost n is within it too
use Rattle.std.specs.Prelude.{◌<◌, ◌≤◌, ◌⊎◌, ℕ, Bool, List, IsTrue}
use Rattle.std.specs.List.{list_any}
use Rattle.metis_ids.specs.declared.goals.Goal.{Goal}
use Rattle.metis_universe.specs.Terms.{Universe, has}
use Rattle.metis_why.specs.Barred.{named_by, wanted_by}
use Rattle.metis_why.specs.Choice.{IsCost, place_in}
use Rattle.metis_why.specs.declared.reason.Line.{Line}

abbrev pub some_names : Universe → List Line → ℕ → Bool
some_names u lines p = list_any (λ l. has (named_by u l.pair l.reason) p) lines

abbrev pub IsCalledFor : Universe → Goal → List Line → ℕ → Type 0
IsCalledFor u g lines p = IsTrue (has (wanted_by u g) p) ⊎ IsTrue (some_names u lines p)

abbrev pub IsWithinCost : Universe → (ℕ → Bool) → Goal → ℕ → ℕ → Type 0
IsWithinCost u x g n p = (m : ℕ) × (m ≤ n) × IsCost u x g p m

abbrev pub IsFromNearToFar : Universe → (ℕ → Bool) → Goal → List ℕ → Type 0
IsFromNearToFar u x g order = (n p q : ℕ) → IsWithinCost u x g n q → place_in order p < place_in order q → IsWithinCost u x g n p
