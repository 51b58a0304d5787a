use Rattle.std.proofs.Common.{◌≡◌, take}
use Rattle.metis_rounds.specs.Terms.{least_left}
use Rattle.metis_rounds.proofs.least.least_return.Given as goal

abbrev pub invariant-loop-event : goal.invariant-loop-event
invariant-loop-event l = l.least ≡ least_left l.taken l.fn.so_far (take l.event-index l.row)
