-- What is known of the rounds so far.
--     AreForced u g ds      each dup is forced over the pairs before it
--     IsUnderWay u g x ds      the lines are those for the targets and the pairs of the dups, and each dup is forced
use Rattle.std.specs.Prelude.{ℕ, ◌≡◌, List, take, slice_get, Some}
use Rattle.metis_ids.specs.Terms.{Dup}
use Rattle.metis_universe.specs.Terms.{Universe}
use Rattle.metis_lines.specs.Terms.{LifeLines, lines_for, own_pairs}
use Rattle.metis_rounds.specs.Terms.{IsForced}
use Rattle.metis_planner.specs.Rounds.{graph_after}

abbrev pub AreForced : Universe → List ℕ → List Dup → Type 0
AreForced u g ds = (k : ℕ) (d : Dup) → slice_get ds k ≡ Some d → IsForced (graph_after u g (take k ds)) d

pub record IsUnderWay (u : Universe) (g : List ℕ) (x : LifeLines) (ds : List Dup) : Type 0 where
  pub lines : x ≡ lines_for u g (own_pairs ds)
  pub forced : AreForced u g ds
