use Rattle.std.proofs.Common.{◌<◌, ◌≤◌, length}
use Rattle.std.specs.List.{All}
use Rattle.metis_probe.proofs.graphs.edges_in.Given as goal

abbrev pub invariant-loop-word : goal.invariant-loop-word
invariant-loop-word l = record {
  from : All (λ e. e.0 < l.count) l.edges.items;
  to : All (λ e. e.1 < l.count) l.edges.items;
  few : length l.edges.items ≤ 256;
}
