use Rattle.std.proofs.Common.{◌≡◌, map, take}
use Rattle.metis_events.specs.Terms.{event_at}
use Rattle.metis_probe.proofs.event_graph.events_of.Given as goal

abbrev pub invariant-loop-node : goal.invariant-loop-node
invariant-loop-node l = l.events.items ≡ map (event_at l.graph) (take l.node-index l.nodes)
