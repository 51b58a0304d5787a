use Rattle.std.proofs.Common.{◌≡◌, ◌≤◌, ◌+◌, ◌++◌, length, map}
use Rattle.std.specs.List.{range_with_len}
use Rattle.metis_ids.specs.declared.events.Event.TheVariants.{At}
use Rattle.metis_events.proofs.graph.add_events.Given as goal

abbrev pub invariant-loop-step : goal.invariant-loop-step
invariant-loop-step l = record {
  events : l.all.items ≡ l.initial.all.items ++ map (At l.line) (range_with_len 0 l.step);
  few : length l.all.items ≤ length l.initial.all.items + l.step;
}
