use Rattle.metis_uniqueness.proofs.Runs.{crew_one}
use Rattle.metis_uniqueness.proofs.laws.a_crew_has_one_answer.Goals as goal

pub returns : goal.returns
returns c = crew_one
