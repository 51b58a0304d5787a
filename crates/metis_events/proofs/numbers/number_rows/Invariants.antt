use Rattle.std.proofs.Common.{◌≡◌, map, take}
use Rattle.metis_events.specs.declared.edges.Edge.{Edge}
use Rattle.metis_events.specs.Terms.{graph_by, number_of}
use Rattle.metis_events.proofs.numbers.number_rows.Given as goal

-- the rows so far have their numbers
abbrev pub invariant-loop-row : goal.invariant-loop-row
invariant-loop-row l = l.rows ≡ map (map (λ (e : Edge). number_of (graph_by l.events l.edges) e.from)) (take l.row-index l.edges)
