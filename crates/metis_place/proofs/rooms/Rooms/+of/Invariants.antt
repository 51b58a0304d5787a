use Rattle.std.proofs.Common.{length}
use Rattle.metis_place.proofs.rooms.Rooms.+of.Given as goal

abbrev pub decreases-of : goal.decreases-of
decreases-of l = length l.rooms.now
