use Rattle.metis_waits.proofs.GoesOn.{complete_all, kept_all, left}
use Rattle.metis_place.proofs.FurtherWaits.{held_all}
use Rattle.metis_place.proofs.laws.held_order_goes_on.Goals as goal

pub returns : goal.returns
returns c = λ h A ks kept held. (left A ks, kept_all A ks kept, held_all h A ks held, complete_all A ks)
