use Rattle.std.proofs.Common.{get_or, take}
use Rattle.std.specs.List.{flat_map}
use Rattle.metis_lines.specs.Terms.{line_at, port_supplies}
use Rattle.metis_events.proofs.gather.add_station_supplies.Given as goal
use Rattle.metis_events.specs.Terms.{Adds, supply_edges, without_supplies}

-- the ports before this one are done
abbrev pub invariant-loop-port : goal.invariant-loop-port
invariant-loop-port l = Adds (flat_map (supply_edges (without_supplies l.over.lines)) (flat_map (port_supplies l.over.universe l.over.support l.over.lines l.line l.station (get_or (line_at l.over.lines l.line) l.station 0)) (take l.port-index l.port-items))) l.initial.edges l.edges
