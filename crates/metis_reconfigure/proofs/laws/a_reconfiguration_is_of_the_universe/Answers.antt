use Rattle.metis_reconfigure.proofs.Short.{reconfigured_of}
use Rattle.metis_reconfigure.proofs.laws.a_reconfiguration_is_of_the_universe.Goals as goal

pub returns : goal.returns
returns c = λ u wishes old goals r k s of. reconfigured_of u k wishes old s goals r of
