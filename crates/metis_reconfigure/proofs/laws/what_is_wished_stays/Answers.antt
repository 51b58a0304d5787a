use Rattle.metis_reconfigure.proofs.Keeping.{fresh_in_the_end, leaving_gone, wished_in_the_end}
use Rattle.metis_reconfigure.proofs.laws.what_is_wished_stays.Goals as goal

pub returns-clause-wished : goal.returns-clause-wished
returns-clause-wished c = λ u wishes old goals r k ans. wished_in_the_end u k wishes old ans.steady goals r ans

pub returns-clause-fresh : goal.returns-clause-fresh
returns-clause-fresh c = λ u wishes old goals r k ans. fresh_in_the_end u k wishes old ans.steady goals r ans

pub returns-clause-leaves : goal.returns-clause-leaves
returns-clause-leaves c = λ u wishes old goals r k ans. leaving_gone u k wishes old ans.steady goals r ans
