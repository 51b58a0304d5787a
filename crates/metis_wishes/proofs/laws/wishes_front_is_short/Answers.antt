use Rattle.metis_wishes.proofs.Fronts.{front_short}
use Rattle.metis_wishes.proofs.laws.wishes_front_is_short.Goals as goal

pub returns : goal.returns
returns c = front_short
