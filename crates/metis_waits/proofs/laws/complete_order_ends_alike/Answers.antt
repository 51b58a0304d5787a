use Rattle.metis_waits.proofs.KeptRuns.{complete_end}
use Rattle.metis_waits.proofs.laws.complete_order_ends_alike.Goals as goal

pub returns : goal.returns
returns c = λ u actions ks run steady kept complete. complete_end u actions run steady ks kept complete
