use Rattle.metis_uniqueness.proofs.Scripts.{over_one}
use Rattle.metis_uniqueness.proofs.laws.each_script_has_one_answer.Goals as goal

pub returns : goal.returns
returns c = over_one
