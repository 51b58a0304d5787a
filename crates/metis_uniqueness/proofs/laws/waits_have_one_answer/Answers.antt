use Rattle.metis_uniqueness.proofs.Runs.{waits_one}
use Rattle.metis_uniqueness.proofs.laws.waits_have_one_answer.Goals as goal

pub returns : goal.returns
returns c = waits_one
