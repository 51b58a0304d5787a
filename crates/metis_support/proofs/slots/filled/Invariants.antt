use Rattle.std.proofs.Common.{◌≡◌, replicate}
use Rattle.metis_support.proofs.slots.filled.Given as goal

abbrev pub invariant-loop : goal.invariant-loop
invariant-loop l = l.numbers ≡ replicate l.counter l.number
