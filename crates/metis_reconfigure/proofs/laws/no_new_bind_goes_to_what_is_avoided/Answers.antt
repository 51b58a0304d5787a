use Rattle.metis_reconfigure.proofs.AvoidedPairs.{binds_go_well}
use Rattle.metis_reconfigure.proofs.laws.no_new_bind_goes_to_what_is_avoided.Goals as goal

pub returns : goal.returns
returns c = λ u wishes old goals r earlier rest s z y k ans is. binds_go_well u k wishes old goals r ans earlier rest s z y is
