-- The plan that rounds come to. Each round brings the events of the life lines, for the targets and the own pairs so far, into
-- their order. Where they have a cycle instead, it makes one pair more an own pair, and the next round begins.
--     numbered w      the graph of the events' numbers
--     ordered_events w      the events in their order
--     graph_after u g ds      the plan without an order for the targets and the pairs of these dups
--     IsByRounds u g p      each dup is forced over the pairs before it, over all pairs no cycle is left, and the actions are those of the order
use Rattle.std.specs.Prelude.{ℕ, ◌≡◌, List, map, take, slice_get, Some}
use Rattle.metis_ids.specs.Terms.{Dup, Graph, HasCycle, Plan, order_of}
use Rattle.metis_ids.specs.declared.events.Event.{Event}
use Rattle.metis_universe.specs.Terms.{Universe}
use Rattle.metis_lines.specs.Terms.{AbstractPlan, graph_for, line_count, own_pairs}
use Rattle.metis_events.specs.Terms.{dag_of, graph_of, nth_event}
use Rattle.metis_emit.specs.Terms.{emission}
use Rattle.metis_rounds.specs.Terms.{IsForced}

abbrev pub numbered : AbstractPlan → Graph
numbered w = dag_of (graph_of w)

abbrev pub ordered_events : AbstractPlan → List Event
ordered_events w = map (nth_event w) (order_of (numbered w))

abbrev pub graph_after : Universe → List ℕ → List Dup → AbstractPlan
graph_after u g ds = graph_for u g (own_pairs ds)

pub record IsByRounds (u : Universe) (g : List ℕ) (p : Plan) : Type 0 where
  pub forced : (k : ℕ) (d : Dup) → slice_get p.dups k ≡ Some d → IsForced (graph_after u g (take k p.dups)) d
  pub ended : HasCycle (numbered (graph_after u g p.dups)) → ⊥
  pub actions : p.actions ≡ emission u (graph_after u g p.dups) (ordered_events (graph_after u g p.dups))
  pub instances : p.instances ≡ line_count (graph_after u g p.dups)
