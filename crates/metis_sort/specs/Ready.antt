-- Nodes that are ready: some others than the last, and perhaps the last.
--     offers others last with_last n      whether n is one of them
--     IsFirst last t x      x is the least node other than the last that passes, or the last node where no other passes
use Rattle.std.specs.Prelude.{ℕ, ◌≢◌, ◌≤◌, ◌==◌, Bool, cond, List, IsTrue}
use Rattle.metis_ids.specs.Terms.{has}

abbrev pub offers : List ℕ → ℕ → Bool → ℕ → Bool
offers others last with_last n = cond (n == last) with_last (has others n)

pub record IsFirst (last : ℕ) (t : ℕ → Bool) (x : ℕ) : Type 0 where
  pub there : IsTrue (t x)
  pub least : (n : ℕ) → IsTrue (t n) → n ≢ last → (x ≢ last) × (x ≤ n)
