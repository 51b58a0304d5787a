use Rattle.metis_waits.proofs.KeptRuns.{kept_end}
use Rattle.metis_waits.proofs.laws.kept_order_is_a_run.Goals as goal

pub returns : goal.returns
returns c = λ u actions ks run steady kept. (kept_end u actions run steady ks kept).run
