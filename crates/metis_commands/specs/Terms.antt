-- What clauses and proofs cite of this crate, by one module.
pub use Rattle.metis_commands.specs.Audit.{Audited, AuditedFor, NamesPairOf, audit_line, audit_status}
pub use Rattle.metis_commands.specs.Confirm.{Confirms, IsSayable, confirmation_line, confirmation_status}
pub use Rattle.metis_commands.specs.Control.{AnswersScript, Controlled}
pub use Rattle.metis_commands.specs.Crew.{Crewed, TakesTurns, crew_lines, last_line, lines_left, progress_line, turn_line}
pub use Rattle.metis_commands.specs.GoalLine.{word_line}
pub use Rattle.metis_commands.specs.Place.{Placed, PlacedRun, hold_line, hold_lines, hold_of_action, holds_behind, no_room_line, on_line, on_lines, placed_line, placing_lines}
pub use Rattle.metis_commands.specs.Print.{Printed}
pub use Rattle.metis_commands.specs.Refute.{Judged, judgement_line, judgement_status}
pub use Rattle.metis_commands.specs.Replay.{Replayed, good_line, verdict_line, verdict_status}
pub use Rattle.metis_commands.specs.Sim.{Simulated}
pub use Rattle.metis_commands.specs.Waits.{Awaited, HasItsWaits, needed_waits}
pub use Rattle.metis_commands.specs.Waves.{IsScheduled, Waved, chain_line, durations_of, finish_line, schedule_lines, start_line}
pub use Rattle.metis_commands.specs.Why.{Explains, IsExplained, IsTold, WhyAnswer, attained_line}
