use Rattle.metis_reconfigure.proofs.Keeping.{stand_in_the_end}
use Rattle.metis_reconfigure.proofs.Lawful.{ends_in_staying}
use Rattle.metis_reconfigure.proofs.laws.a_reconfiguration_ends_in_what_stays.Goals as goal

pub returns-clause-instances : goal.returns-clause-instances
returns-clause-instances c = λ u wishes old goals r k ans. stand_in_the_end u k wishes old ans.steady goals r ans

pub returns-clause-configuration : goal.returns-clause-configuration
returns-clause-configuration c = λ u wishes old goals r k ans. ends_in_staying u k wishes old ans.steady goals r ans.answerable
