use Rattle.std.proofs.Common.{◌≡◌, ◌≤◌, ◌*◌, length}
use Rattle.std.specs.List.{flat_map, range_with_len}
use Rattle.metis_lines.specs.Terms.{events_of}
use Rattle.metis_events.proofs.graph.all_events.Given as goal
use Rattle.metis_events.specs.Terms.{without_supplies}

abbrev pub invariant-loop-number : goal.invariant-loop-number
invariant-loop-number l = record {
  events : l.all.items ≡ flat_map (events_of (without_supplies l.over.lines)) (range_with_len 0 l.number);
  few : length l.all.items ≤ 65 * l.number;
}
