-- Which pairs may be the origin of a pair.
--     LeadsUp u o p      o is of a lower layer than p, and a move leads from it to p
--     IsLeastBelow u p o      o is the least of the pairs that lead up to p
--     IsFirstBelow u n p o      o is that pair where it is below n, and none where no pair below n leads up to p
--     AreFirstBelow u n origins      the table has this for each pair
use Rattle.std.specs.Prelude.{◌≡◌, ◌<◌, ◌≤◌, ℕ, List, length, Option, Some, None, slice_index_or, IsTrue}
use Rattle.metis_universe.specs.Terms.{IsLower, Universe, has, next_of, pair_count}

pub record LeadsUp (u : Universe) (o p : ℕ) : Type 0 where
  pub lower : IsLower u o p
  pub leads : IsTrue (has (next_of u o) p)

pub record IsLeastBelow (u : Universe) (p o : ℕ) : Type 0 where
  pub leads : LeadsUp u o p
  pub least : (q : ℕ) → LeadsUp u q p → o ≤ q

abbrev pub IsFirstBelow : Universe → ℕ → ℕ → Option ℕ → Type 0
IsFirstBelow u n p None = (q : ℕ) → q < n → LeadsUp u q p → ⊥
IsFirstBelow u n p (Some o) = (o < n) × IsLeastBelow u p o

pub record AreFirstBelow (u : Universe) (n : ℕ) (origins : List (Option ℕ)) : Type 0 where
  pub count : length origins ≡ pair_count u
  pub each : (p : ℕ) → p < pair_count u → IsFirstBelow u n p (slice_index_or origins p None)
