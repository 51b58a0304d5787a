use Rattle.metis_waits.proofs.GoesOn.{complete_all, kept_all, left}
use Rattle.metis_waits.proofs.laws.kept_order_goes_on.Goals as goal

pub returns : goal.returns
returns c = λ A ks kept. (left A ks, kept_all A ks kept, complete_all A ks)
