use Rattle.std.specs.List.{flat_map, range_with_len}
use Rattle.metis_lines.specs.Terms.{line_supplies}
use Rattle.metis_events.proofs.gather.add_supplies.Given as goal
use Rattle.metis_events.specs.Terms.{Adds, supply_edges, without_supplies}

abbrev pub invariant-loop-number : goal.invariant-loop-number
invariant-loop-number l = Adds (flat_map (supply_edges (without_supplies l.over.lines)) (flat_map (line_supplies l.over.universe l.over.support l.over.lines) (range_with_len 0 l.number))) l.initial.edges l.edges
