use Rattle.metis_uniqueness.proofs.Plain.{replay_one}
use Rattle.metis_uniqueness.proofs.laws.a_replay_has_one_answer.Goals as goal

pub returns : goal.returns
returns c = replay_one
