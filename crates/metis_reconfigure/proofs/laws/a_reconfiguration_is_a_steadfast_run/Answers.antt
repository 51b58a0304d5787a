use Rattle.metis_reconfigure.proofs.Lawful.{steady_whole}
use Rattle.metis_reconfigure.proofs.laws.a_reconfiguration_is_a_steadfast_run.Goals as goal

pub returns : goal.returns
returns c = λ u wishes old goals r k ans. steady_whole u k wishes old ans.steady goals r ans.answerable
