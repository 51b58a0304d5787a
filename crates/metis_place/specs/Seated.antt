-- The instances that actions make.
--     instance_made a, instances_made actions      the instance that a New makes;  those of all New, in order
use Rattle.std.specs.Prelude.{ℕ, List, Option, None, Some}
use Rattle.std.specs.List.{filter_map}
use Rattle.metis_ids.specs.declared.actions.Action.{Action}
use Rattle.metis_ids.specs.declared.actions.Action.TheVariants.{New, Delete, Bind, Unbind, Move}

abbrev pub instance_made : Action → Option ℕ
instance_made (New z t) = Some z
instance_made (Delete z) = None
instance_made (Bind r z y) = None
instance_made (Unbind r z y) = None
instance_made (Move z p q) = None

abbrev pub instances_made : List Action → List ℕ
instances_made actions = filter_map instance_made actions
