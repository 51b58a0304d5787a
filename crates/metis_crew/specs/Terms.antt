-- What clauses and proofs cite of this crate, by one module.
pub use Rattle.metis_crew.specs.Crew.{CrewState, actor_at, after_turns, at_start, count_of, counts_after, did, done_count, is_done, is_own, next_of, none_done, number_done, one_more, own_done, own_numbers, progress, start, turn, turn_at, turns}
pub use Rattle.metis_crew.specs.Tables.{AreTables, row_at}
pub use Rattle.metis_crew.specs.Turn.{HasDoneAll, HasNone, HasWaited, IsLeastLeft, IsNext, UnlessDid}
