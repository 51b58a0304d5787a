use Rattle.metis_uniqueness.proofs.ReconfiguresThere.{reconfiguration_there}
use Rattle.metis_uniqueness.proofs.existence.a_reconfiguration_has_an_answer.Goals as goal

pub returns : goal.returns
returns c = λ u goals old wishes table few k of. reconfiguration_there u table goals old wishes few of
