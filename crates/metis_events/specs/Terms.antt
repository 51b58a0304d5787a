-- What clauses and proofs cite of this crate, by one module.
pub use Rattle.metis_events.specs.Edges.{EventGraph, before, edge_cmp, edge_of, edges_from, edges_into, event_at, graph_of, has_edge, is_edge, kind_cmp, kind_number, node_of}
pub use Rattle.metis_events.specs.Gathered.{Adds, IsSlotThere, edges_to, go_edges, has_target, in_order, next_edge, return_edges, same_edge, same_target, supply_edges, without_supplies}
pub use Rattle.metis_events.specs.Numbered.{IsGraphOf, IsJoined, dag_of, graph_by, joins_into, nth_event, number_of, numbers_into}
pub use Rattle.metis_events.specs.Returns.{IsFromLoose, IsFromSupply}
