-- The graph of the events' numbers.
--     graph_by events edges      the graph of these lists
--     number_of g e      the number of an event of the graph
--     joins_into g b      the edges into event b, as pairs of numbers
--     dag_of g      the graph whose nodes are these numbers, and whose last node is the last of them
--     IsJoined g      there is an event, and each edge leads from an event of the graph
--     numbers_into g b      the numbers of the events from which the edges into event b lead
--     IsKept events edges dag      what holds of what a graph keeps. The events strictly ascend, and there are fewer than 2^32. At the place of each event stand in `edges` the edges into it. The dag is the graph of their numbers
--     nth_event w n      the event of the number, by line and then by step, `End` last
--     IsGraphOf w g      g has the events' numbers as nodes, that of `End` as its last one, and an edge where one event precedes another
use Rattle.std.specs.Prelude.{ℕ, suc, ◌≡◌, ◌<◌, ◌-◌, ◌^◌, List, [], length, map, slice_index_or}
use Rattle.std.specs.List.{All, flat_map, position_or_len, range_with_len}
use Rattle.std.specs.List.Sorted.{IsStrictlySortedBy}
use Rattle.metis_ids.specs.declared.events.Event.{Event}
use Rattle.metis_ids.specs.declared.events.Event.TheVariants.{End}
use Rattle.metis_ids.specs.Terms.{Graph, IsGraph, is_edge}
use Rattle.metis_lines.specs.Terms.{AbstractPlan, event_cmp, events, precedes, same_event}
use Rattle.metis_events.specs.declared.edges.Edge.{Edge}
use Rattle.metis_events.specs.Edges.{EventGraph}

abbrev pub graph_by : List Event → List (List Edge) → EventGraph
graph_by events edges = record { events = events; edges = edges }

abbrev pub number_of : EventGraph → Event → ℕ
number_of g e = position_or_len (same_event e) g.events

abbrev pub joins_into : EventGraph → ℕ → List (ℕ × ℕ)
joins_into g b = map (λ (e : Edge). (number_of g e.from, b)) (slice_index_or g.edges b [])

abbrev pub dag_of : EventGraph → Graph
dag_of g = record { nodes = length g.events; edges = flat_map (joins_into g) (range_with_len 0 (length g.events)); last = length g.events - 1 }

pub record IsJoined (g : EventGraph) : Type 0 where
  pub some : 0 < length g.events
  pub from : All (λ row. All (λ (e : Edge). number_of g e.from < length g.events) row) g.edges

abbrev pub numbers_into : EventGraph → ℕ → List ℕ
numbers_into g b = map (λ (e : Edge). number_of g e.from) (slice_index_or g.edges b [])

pub record IsKept (events : List Event) (edges : List (List Edge)) (dag : Graph) : Type 0 where
  pub each : length edges ≡ length events
  pub few : length events < 2 ^ 32
  pub ascend : IsStrictlySortedBy event_cmp events
  pub is_dag : dag ≡ dag_of (graph_by events edges)

abbrev pub nth_event : AbstractPlan → ℕ → Event
nth_event w n = slice_index_or (events w) n End

pub record IsGraphOf (w : AbstractPlan) (g : Graph) : Type 0 where
  pub nodes : g.nodes ≡ length (events w)
  pub last : suc g.last ≡ g.nodes
  pub edges : (a b : ℕ) → a < g.nodes → b < g.nodes → is_edge g a b ≡ precedes w (nth_event w a) (nth_event w b)
  pub within : IsGraph g
