use Rattle.metis_uniqueness.proofs.Planned.{plan_one}
use Rattle.metis_uniqueness.proofs.laws.a_plan_has_one_answer.Goals as goal

pub returns : goal.returns
returns c = plan_one
