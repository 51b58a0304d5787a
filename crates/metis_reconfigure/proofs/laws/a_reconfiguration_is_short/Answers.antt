use Rattle.metis_reconfigure.proofs.Short.{reconfigured_short}
use Rattle.metis_reconfigure.proofs.laws.a_reconfiguration_is_short.Goals as goal

pub returns : goal.returns
returns c = λ u wishes old goals r table ans few named. reconfigured_short u table wishes old goals r ans few named
