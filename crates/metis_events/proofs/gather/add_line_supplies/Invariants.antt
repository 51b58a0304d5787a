use Rattle.std.specs.List.{flat_map, range_with_len}
use Rattle.metis_lines.specs.Terms.{station_supplies}
use Rattle.metis_events.proofs.gather.add_line_supplies.Given as goal
use Rattle.metis_events.specs.Terms.{Adds, supply_edges, without_supplies}

abbrev pub invariant-loop-station : goal.invariant-loop-station
invariant-loop-station l = Adds (flat_map (supply_edges (without_supplies l.over.lines)) (flat_map (station_supplies l.over.universe l.over.support l.over.lines l.line) (range_with_len 0 l.station))) l.initial.edges l.edges
