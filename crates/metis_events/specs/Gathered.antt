-- All edges of a graph, each with the event that it leads into.
--     same_edge a b, same_target x y      whether two edges are one;  the same with the events that they lead into
--     has_target xs x      whether x is among them
--     Adds xs old new      these are added to those that were there
--     without_supplies x      the plan of the lines alone
--     next_edge l j, go_edges w l      the go edge from step j of line l;  all go edges of the line
--     IsSlotThere x p k      the pair has the slot, and a line with a station is that slot
--     return_edges e f, supply_edges w s      the return edge from e to f, unless f is the end;  the start and the return edge of a supply
--     edges_to xs f      the edges into f among these
--     in_order es      the edges by the events that they lead from and then by kind, each once
use Rattle.std.specs.Prelude.{ℕ, ◌≡◌, ◌<◌, ◌≤◌, ◌==◌, ◌+◌, ◌-◌, Bool, ◌&&◌, ◌||◌, List, [], ◌∷◌, ◌++◌, length, map, fold, if◌then◌else◌}
use Rattle.std.specs.List.{filter, list_any, range_with_len}
use Rattle.std.specs.BTreeSet.{insert_key}
use Rattle.metis_ids.specs.declared.events.Event.{Event}
use Rattle.metis_ids.specs.declared.events.Event.TheVariants.{At, End}
use Rattle.metis_events.specs.declared.edges.Edge.{Edge}
use Rattle.metis_events.specs.declared.edges.EdgeKind.TheVariants.{Go, Start, Return}
use Rattle.metis_events.specs.Edges.{edge_cmp, edge_of, kind_number}
use Rattle.metis_lines.specs.Terms.{AbstractPlan, LifeLines, Supply, is_end, last, leaving, line_at, same_event, slot_holding, slots, step_count}

abbrev pub same_edge : Edge → Edge → Bool
same_edge a b = same_event a.from b.from && (kind_number a.kind == kind_number b.kind)

abbrev pub same_target : Event × Edge → Event × Edge → Bool
same_target x y = same_event x.0 y.0 && same_event x.1.from y.1.from && (kind_number x.1.kind == kind_number y.1.kind)

abbrev pub has_target : List (Event × Edge) → Event × Edge → Bool
has_target xs x = list_any (λ y. same_target y x) xs

abbrev pub Adds : List (Event × Edge) → List (Event × Edge) → List (Event × Edge) → Type 0
Adds xs old new = (x : Event × Edge) → has_target new x ≡ (has_target xs x || has_target old x)

abbrev pub without_supplies : LifeLines → AbstractPlan
without_supplies x = record { lines = x.lines; targets = length x.targets; supplies = [] }

abbrev pub next_edge : ℕ → ℕ → Event × Edge
next_edge l j = (At l (j + 1), edge_of (At l j) Go)

abbrev pub go_edges : AbstractPlan → ℕ → List (Event × Edge)
go_edges w l = map (next_edge l) (range_with_len 0 (step_count w l - 1)) ++ (End, edge_of (At l (last w l)) Go) ∷ []

pub record IsSlotThere (x : LifeLines) (p k : ℕ) : Type 0 where
  pub number : k ≤ slots x p
  pub line : (slot_holding x p k).0 < length x.lines
  pub place : (slot_holding x p k).1 < length (line_at x (slot_holding x p k).0)

abbrev pub return_edges : Event → Event → List (Event × Edge)
return_edges e f = if is_end f then [] else ((f, edge_of e Return) ∷ [])

abbrev pub supply_edges : AbstractPlan → Supply → List (Event × Edge)
supply_edges w s = (At s.line s.station, edge_of (At s.holder s.place) Start) ∷ return_edges (leaving w s.line s.station) (leaving w s.holder s.place)

abbrev pub edges_to : List (Event × Edge) → Event → List Edge
edges_to xs f = map (λ (x : Event × Edge). x.1) (filter (λ (x : Event × Edge). same_event x.0 f) xs)

abbrev pub in_order : List Edge → List Edge
in_order es = fold (insert_key edge_cmp) [] es
