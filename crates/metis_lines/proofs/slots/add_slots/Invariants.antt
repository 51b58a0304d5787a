use Rattle.std.proofs.Common.{◌≡◌, ◌++◌, replicate}
use Rattle.metis_support.specs.Terms.{path_to}
use Rattle.metis_lines.proofs.slots.add_slots.Given as goal

abbrev pub invariant-loop : goal.invariant-loop
invariant-loop l = record {
  lines : l.lines.items ≡ l.initial.lines.items ++ replicate l.counter (path_to l.s l.pair);
  pairs : l.pairs.items ≡ l.initial.pairs.items ++ replicate l.counter l.pair;
}
