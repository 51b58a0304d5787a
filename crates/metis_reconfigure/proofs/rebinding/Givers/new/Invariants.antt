use Rattle.std.proofs.Common.{◌≡◌, map}
use Rattle.std.specs.List.{range_with_len, slice_index_or}
use Rattle.metis_rollout.specs.Terms.{named}
use Rattle.metis_reconfigure.proofs.rebinding.Givers.new.Given as goal

abbrev pub invariant-loop-number : goal.invariant-loop-number
invariant-loop-number l = l.fresh.items ≡ map (λ n. (named l.names.entries n, slice_index_or l.targets n 0)) (range_with_len 0 l.number)
