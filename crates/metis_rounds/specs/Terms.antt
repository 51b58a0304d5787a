-- What clauses and proofs cite of this crate, by one module.
pub use Rattle.metis_rounds.specs.Course.{IfMore, IsCourse}
pub use Rattle.metis_rounds.specs.Forced.{IsForced, cycle_of_events, doubled_by, left_by, place_after}
pub use Rattle.metis_rounds.specs.Going.{HasLine, HasNoLines, HasOwnLine, HasPlaces, HasSeen, IsGoing, IsMissing, IsWaiting, all_taken, event_count, is_on, next_uses, use_at, use_event, uses_at}
pub use Rattle.metis_rounds.specs.Least.{IsFirstLeft, least_left, lesser_of, on_line_before, with_left}
pub use Rattle.metis_rounds.specs.More.{HasNoneLeft, IsBegun, IsFirstMore}
pub use Rattle.metis_rounds.specs.OwnLine.{HasMoved, IsWithOwnLine, is_from, moved_supply, twin, twin_line, twin_supply}
pub use Rattle.metis_rounds.specs.Reach.{HasAllBefore, HasEnded, HasStopped, IsLeastLeft, IsSafe, WaitsFor, is_taken, next_of, taken_of, with_next}
pub use Rattle.metis_rounds.specs.Returns.{Brings, IsUse, is_brought}
pub use Rattle.metis_rounds.specs.Round.{IsRoundOf}
pub use Rattle.metis_rounds.specs.Rounds.{RoundsState, graph_now, state_of, with_own}
pub use Rattle.metis_rounds.specs.Stuck.{IsHeldUp, IsStuck, has_before, is_stuck, stuck_events, stuck_within, with_before}
pub use Rattle.metis_rounds.specs.Tables.{Empties, HasGrown, HasReturns, HasRows, HasTables, HasUses, Rows, has_row, port_uses, row_at, uses_of}
pub use Rattle.metis_rounds.specs.Walks.{IsApart, IsKept, IsLeastBefore, IsMet, IsWalk, entry_place, from_step, kept_count, kept_steps, place_in, step_at}
