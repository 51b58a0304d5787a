use Rattle.metis_uniqueness.proofs.PlansThere.{plan_there}
use Rattle.metis_uniqueness.proofs.existence.a_plan_has_an_answer.Goals as goal

pub returns : goal.returns
returns c = λ u goals table few. plan_there u table goals few
