use Rattle.std.proofs.Common.{◌≡◌, ◌++◌, take}
use Rattle.std.specs.Prelude.{map, string_bytes}
use Rattle.metis_text.specs.Terms.{event_token}
use Rattle.metis_tokens.specs.Terms.{added}
use Rattle.metis_text.proofs.lines.push_events.Given as goal

abbrev pub invariant-loop-event : goal.invariant-loop-event
invariant-loop-event l = record {
  text : string_bytes l.line ≡ string_bytes l.initial.line ++ added (map event_token (take l.event-index l.cycle));
}
