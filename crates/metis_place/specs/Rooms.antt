-- The free rooms of hosts, in a tree.
--     rooms most node      the rooms, in order
--     IsRooms most node      the greatest room is right, and neither side of a fork is empty
use Rattle.std.specs.Prelude.{◌≡◌, ◌≤◌, ℕ, List, [], ◌∷◌, ◌++◌, length, max, ⊤}
use Rattle.metis_ids.specs.Terms.{greatest}
use Rattle.metis_place.specs.declared.rooms.Node.{Node}
use Rattle.metis_place.specs.declared.rooms.Node.TheVariants.{Empty, Leaf, Fork}

abbrev pub rooms : ℕ → Node → List ℕ
rooms most Empty = []
rooms most Leaf = most ∷ []
rooms most (Fork first count others) = first.value ++ others.value

abbrev pub IsRooms : ℕ → Node → Type 0
IsRooms most Empty = most ≡ 0
IsRooms most Leaf = ⊤
IsRooms most (Fork first count others) = (most ≡ max (greatest first.value) (greatest others.value)) × (count ≡ length first.value) × (1 ≤ length first.value) × (1 ≤ length others.value)
