use Rattle.std.proofs.Common.{◌≡◌, ◌||◌, ◌++◌, ℕ}
use Rattle.std.specs.List.{list_any}
use Rattle.metis_support.specs.Terms.{is_number, origin_at}
use Rattle.metis_universe.specs.Terms.{has}
use Rattle.metis_lines.proofs.first.add_origins.Given as goal

-- with the origins of the pairs so far
abbrev pub invariant-loop-pair : goal.invariant-loop-pair
invariant-loop-pair l = record {
  left : l.yielded ++ l.pair-iterator ≡ l.s.selected.members;
  size : l.set.size ≡ l.initial.set.size;
  members : (p : ℕ) → has l.set.members p ≡ (has l.initial.set.members p || list_any (λ q. is_number p (origin_at l.s q)) l.yielded);
}
