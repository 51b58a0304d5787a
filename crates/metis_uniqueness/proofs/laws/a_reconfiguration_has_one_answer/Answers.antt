use Rattle.metis_uniqueness.proofs.Reconfigured.{reconfigure_one}
use Rattle.metis_uniqueness.proofs.laws.a_reconfiguration_has_one_answer.Goals as goal

pub returns : goal.returns
returns c = reconfigure_one
