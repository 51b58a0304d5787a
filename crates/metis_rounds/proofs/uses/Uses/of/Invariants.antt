use Rattle.std.proofs.Common.{◌≡◌, ◌<◌, ℕ, [], true, get_or, length}
use Rattle.metis_support.specs.Terms.{is_selected}
use Rattle.metis_rounds.specs.Terms.{uses_of}
use Rattle.metis_rounds.proofs.uses.Uses.of.Given as goal

-- the pairs before this one are done
abbrev pub invariant-loop-number : goal.invariant-loop-number
invariant-loop-number l = record {
  size : length l.rows.items ≡ l.number;
  rows : (q : ℕ) → q < l.number → is_selected l.over.support q ≡ true → get_or l.rows.items q [] ≡ uses_of l.over.universe l.over.support q;
}
