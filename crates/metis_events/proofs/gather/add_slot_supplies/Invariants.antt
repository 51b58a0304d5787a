use Rattle.std.proofs.Common.{ℕ, map}
use Rattle.std.specs.List.{flat_map, range_with_len}
use Rattle.metis_lines.specs.Terms.{slot_holding, supply_from}
use Rattle.metis_events.proofs.gather.add_slot_supplies.Given as goal
use Rattle.metis_events.specs.Terms.{Adds, supply_edges, without_supplies}

-- the slots before this one are done
abbrev pub invariant-loop-slot : goal.invariant-loop-slot
invariant-loop-slot l = (r : ℕ) → Adds (flat_map (supply_edges (without_supplies l.over.lines)) (map (λ k. supply_from l.line l.station r k (slot_holding l.over.lines l.provider k)) (range_with_len 1 l.slot))) l.initial.edges l.edges
