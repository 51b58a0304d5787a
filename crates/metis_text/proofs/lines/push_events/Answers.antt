use Rattle.std.proofs.Common.{◌++◌, ap, ◌∙◌}
use Rattle.std.specs.Prelude.{codes, string_bytes}
use Rattle.metis_tokens.proofs.Words.{added_next}
use Rattle.metis_text.specs.Terms.{event_token}
use Rattle.metis_text.proofs.lines.push_events.Goals as goal

pub loop-event-preserved : goal.loop-event-preserved
loop-event-preserved c =
    let x = c.event-item.result in
    record {
      text = c.in_ok-push_event.ensures ∙ ap (λ l. l ++ (codes " " ++ event_token x)) c.loop-event.invariant.text
          ∙ added_next event_token (string_bytes c.args.line.now) c.args.cycle.now c.loop-event.event-index x x c.loop-event-test.true c.event-item.is;
    }
