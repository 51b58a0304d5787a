use Rattle.metis_reconfigure.proofs.Throughout.{kept_never_fall}
use Rattle.metis_reconfigure.proofs.laws.the_kept_never_fall.Goals as goal

pub returns : goal.returns
returns c = λ u wishes old goals r ks k ans. kept_never_fall u wishes old goals r k ans ks
