use Rattle.metis_uniqueness.proofs.PlansThere.{rollout_there}
use Rattle.metis_uniqueness.proofs.existence.a_rollout_has_an_answer.Goals as goal

pub returns : goal.returns
returns c = λ u goals old table few k of. rollout_there u table goals old few of
