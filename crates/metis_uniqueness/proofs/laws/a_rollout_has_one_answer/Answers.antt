use Rattle.metis_uniqueness.proofs.Planned.{rollout_one}
use Rattle.metis_uniqueness.proofs.laws.a_rollout_has_one_answer.Goals as goal

pub returns : goal.returns
returns c = rollout_one
