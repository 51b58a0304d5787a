use Rattle.std.proofs.Common.{◌≡◌}
use Rattle.std.specs.List.{flat_map, range_with_len}
use Rattle.metis_gen.specs.Terms.{targets_at}
use Rattle.metis_gen.proofs.generate.targets_of.Given as goal

abbrev pub invariant-loop-i : goal.invariant-loop-i
invariant-loop-i l = l.targets.items ≡ flat_map targets_at (range_with_len 0 l.i)
