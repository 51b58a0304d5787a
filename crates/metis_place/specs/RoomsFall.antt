-- Each side of a fork has fewer rooms than the fork.
use Rattle.std.specs.Prelude.{◌≤◌, ℕ, max, length}
use Rattle.std.proofs.Common.{arith, length-append}
use Rattle.metis_place.specs.Rooms.{IsRooms, rooms}
use Rattle.metis_place.specs.declared.rooms.Node.{Node}
use Rattle.metis_place.specs.declared.rooms.Node.TheVariants.{Empty, Leaf, Fork}
use Rattle.metis_place.specs.declared.rooms.Rooms.TheDeep.{deep-Node}

pub depth_le_rooms : (most : ℕ) (n : Node) → IsRooms most n → max (deep-Node n) 0 ≤ length (rooms most n)
depth_le_rooms most Empty h = omega arith
depth_le_rooms most Leaf h = omega arith
depth_le_rooms most (Fork first count others) h = omega (arith, length-append first.value others.value, h.2, h.3)
