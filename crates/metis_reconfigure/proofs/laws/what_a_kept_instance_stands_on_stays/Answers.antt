use Rattle.metis_reconfigure.proofs.Tidying.{kept_bound, leads_on}
use Rattle.metis_reconfigure.proofs.laws.what_a_kept_instance_stands_on_stays.Goals as goal

pub returns-clause-stays : goal.returns-clause-stays
returns-clause-stays c = λ u wishes old goals r k ans. leads_on u k wishes old goals r ans

pub returns-clause-bound : goal.returns-clause-bound
returns-clause-bound c = λ u wishes old goals r k ans. kept_bound u k wishes old goals r ans
