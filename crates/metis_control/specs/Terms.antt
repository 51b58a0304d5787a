-- What clauses and proofs cite of this crate, by one module.
pub use Rattle.metis_control.specs.Acknowledged.{AcknowledgedState, AreFlagged, IsOnce, flag_at}
pub use Rattle.metis_control.specs.Agent.{AgentState, by_next, done_after, heard, idle, new_agent, with_number}
pub use Rattle.metis_control.specs.Controller.{ControllerState, held, leave}
pub use Rattle.metis_control.specs.Fields.{Adds, AreOwned, IsAdded, IsAnswered, IsDoneOrNext, IsHeard, IsOrdered, IsWorld, WorldValue, after_order, agent_at, counts_of, state_of}
pub use Rattle.metis_control.specs.Owned.{IsPlaceOf, IsRising}
pub use Rattle.metis_control.specs.Script.{after_lines, answer_of, answer_to, answers, counts_line, end_lines, events_of, happening_in, happening_of, happens, lines_left, ran_line, script_answers, told_line}
pub use Rattle.metis_control.specs.World.{IsReached, WorldState, after_events, at_first, came, delivered, first_wait, hear, held_or_sent, next_number, ordered, packet_at, restarted, told, with_acked, with_packet, with_run}
