use Rattle.std.proofs.Common.{◌≡◌, replicate, None}
use Rattle.metis_choice.proofs.tables.unset.Given as goal

abbrev pub invariant-loop : goal.invariant-loop
invariant-loop g l = l.table ≡ replicate l.counter None
