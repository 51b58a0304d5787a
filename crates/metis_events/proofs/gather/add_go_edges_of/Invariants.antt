use Rattle.std.proofs.Common.{map}
use Rattle.std.specs.List.{range_with_len}
use Rattle.metis_events.proofs.gather.add_go_edges_of.Given as goal
use Rattle.metis_events.specs.Terms.{Adds, next_edge}

abbrev pub invariant-loop-step : goal.invariant-loop-step
invariant-loop-step l = Adds (map (next_edge l.line) (range_with_len 0 l.step)) l.initial.edges l.edges
