use Rattle.metis_reconfigure.proofs.Tidying.{is_tidied}
use Rattle.metis_reconfigure.proofs.laws.a_reconfiguration_is_tidy.Goals as goal

pub returns : goal.returns
returns c = λ u wishes old goals r k ans. is_tidied u k wishes old goals r ans
