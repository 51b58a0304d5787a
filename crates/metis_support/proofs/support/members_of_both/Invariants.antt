use Rattle.std.proofs.Common.{◌≡◌}
use Rattle.std.specs.List.{filter}
use Rattle.metis_universe.specs.Terms.{has}
use Rattle.metis_support.proofs.support.members_of_both.Given as goal

-- those of the members so far
abbrev pub invariant-loop-pair : goal.invariant-loop-pair
invariant-loop-pair l = l.pairs.items ≡ filter (has l.other.members) l.yielded
