use Rattle.std.proofs.Common.{◌≡◌, map, take}
use Rattle.metis_events.specs.Terms.{event_at}
use Rattle.metis_planner.proofs.order.events_of.Given as goal

-- the events of the nodes so far
abbrev pub invariant-loop-node : goal.invariant-loop-node
invariant-loop-node l = l.events.items ≡ map (event_at l.graph) (take l.node-index l.nodes)
