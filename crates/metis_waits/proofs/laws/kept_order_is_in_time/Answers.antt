use Rattle.metis_waits.proofs.Timely.{IsKept-in_time}
use Rattle.metis_waits.proofs.laws.kept_order_is_in_time.Goals as goal

pub returns : goal.returns
returns c = IsKept-in_time
