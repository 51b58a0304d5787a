use Rattle.std.proofs.Common.{◌<◌, ◌≤◌, length}
use Rattle.std.specs.List.{All}
use Rattle.metis_universe.specs.Terms.{pair_count}
use Rattle.metis_probe.proofs.goals.targets_in.Given as goal

abbrev pub invariant-loop-word : goal.invariant-loop-word
invariant-loop-word l = record {
  within : All (λ p. p < pair_count l.u) l.pairs.items;
  few : length l.pairs.items ≤ 256;
}
