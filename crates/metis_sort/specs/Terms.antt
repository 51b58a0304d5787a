-- What clauses and proofs cite of this crate, by one module.
pub use Rattle.metis_sort.specs.Counts.{all_waiting, awaits, edges_from, edges_to, waiting}
pub use Rattle.metis_sort.specs.Dag.{HasEdgesOf, IsDag, ascending, edges_into, edges_of_row, graph_into, turned_row}
pub use Rattle.metis_sort.specs.Ready.{IsFirst, offers}
pub use Rattle.metis_sort.specs.Rows.{AreSpaced, Filling, HasRoom, IsFull, IsRoomy, IsSpread, filling_of, joined, part, rows_by, rows_from}
pub use Rattle.metis_sort.specs.Sorted.{IsSorted}
