-- What clauses and proofs cite of this crate, by one module.
pub use Rattle.metis_ids.specs.Action.{actor_of, makes}
pub use Rattle.metis_ids.specs.Counts.{greatest, occurrences}
pub use Rattle.metis_ids.specs.Cycle.{HasCycle, IsCycle, IsStuck, before_in, cycle_in, cycle_of, first_again, from_first, has_before, stuck, stuck_within, visit, visits, with_before}
pub use Rattle.metis_ids.specs.Events.{IsEarlier}
pub use Rattle.metis_ids.specs.Graph.{Graph, IsGraph, afters, all_nodes, befores, edge_count, is_edge, joins}
pub use Rattle.metis_ids.specs.Lists.{has}
pub use Rattle.metis_ids.specs.Order.{IsOrder, IsSorting, is_ready, order_of, pick, preferred, taken, with_pick}
pub use Rattle.metis_ids.specs.Outcomes.{IfFault, ReadsAs}
pub use Rattle.metis_ids.specs.PairSet.{PairSet, members_from, members_of}
pub use Rattle.metis_ids.specs.Paths.{path_by}
pub use Rattle.metis_ids.specs.Plans.{Dup, Plan}
pub use Rattle.metis_ids.specs.Ties.{tie_action}
