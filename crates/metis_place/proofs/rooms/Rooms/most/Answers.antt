use Rattle.std.proofs.Common.{◌∙◌, ap}
use Rattle.metis_ids.specs.Terms.{greatest}
use Rattle.metis_place.proofs.Trees.{rooms_most}
use Rattle.metis_place.proofs.rooms.Rooms.most.Goals as goal

pub returns : goal.returns
returns c = rooms_most _ _ c.self.invariant ∙ ap greatest c.self.view_is
