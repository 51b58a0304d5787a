use Rattle.metis_crew.proofs.Exact.{did_then_done}
use Rattle.metis_crew.proofs.laws.did_is_done.Goals as goal

pub returns : goal.returns
returns c = did_then_done
