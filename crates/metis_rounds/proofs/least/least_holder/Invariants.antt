use Rattle.std.proofs.Common.{◌≡◌, map, take}
use Rattle.metis_rounds.specs.Terms.{least_left, use_event}
use Rattle.metis_rounds.proofs.least.least_holder.Given as goal

abbrev pub invariant-loop-slot : goal.invariant-loop-slot
invariant-loop-slot l = l.least ≡ least_left l.taken l.fn.so_far (take l.slot-index (map (use_event l.over.lines) l.slots))
