use Rattle.metis_place.proofs.Fewest.{fewest}
use Rattle.metis_place.proofs.laws.further_waits_are_fewest.Goals as goal

pub returns : goal.returns
returns c = fewest
