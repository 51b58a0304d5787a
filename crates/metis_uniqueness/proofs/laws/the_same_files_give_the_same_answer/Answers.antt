use Rattle.metis_uniqueness.proofs.Scripts.{tells_same}
use Rattle.metis_uniqueness.proofs.laws.the_same_files_give_the_same_answer.Goals as goal

pub returns : goal.returns
returns c = tells_same
