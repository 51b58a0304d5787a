use Rattle.metis_reconfigure.proofs.Keeping.{is_beside, is_joined}
use Rattle.metis_reconfigure.proofs.Lawful.{steady_before}
use Rattle.metis_reconfigure.proofs.laws.old_and_fresh_and_rebound_stand_together.Goals as goal

pub returns-clause-run : goal.returns-clause-run
returns-clause-run c = λ u wishes old goals r k s. steady_before u k wishes old s goals r

pub returns-clause-configuration : goal.returns-clause-configuration
returns-clause-configuration c = λ u wishes old goals r k s. is_joined u k wishes old s goals r

pub returns-clause-spares : goal.returns-clause-spares
returns-clause-spares c = λ u wishes old goals r k s. is_beside u k wishes old s goals r
