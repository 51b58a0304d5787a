use Rattle.std.proofs.Common.{◌≡◌, ◌+◌, drop, length}
use Rattle.std.specs.List.{All}
use Rattle.metis_universe.specs.Terms.{IsWordable}
use Rattle.metis_inputs.specs.Terms.{goals_after, goals_named}
use Rattle.metis_inputs.proofs.reading.goals_in.Given as goal

abbrev pub invariant-loop-k : goal.invariant-loop-k
invariant-loop-k l = record {
  rest : goals_after l.goals.items (l.place + l.k) l.u (drop l.k l.targets) ≡ goals_named l.place l.u l.targets;
  all : length l.goals.items ≡ l.k;
  wordable : All (IsWordable l.u) l.goals.items;
}
