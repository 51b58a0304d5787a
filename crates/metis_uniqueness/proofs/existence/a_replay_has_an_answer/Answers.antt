use Rattle.metis_uniqueness.proofs.AnswersThere.{replay_there}
use Rattle.metis_uniqueness.proofs.existence.a_replay_has_an_answer.Goals as goal

pub returns : goal.returns
returns c = λ u goals actions k of. replay_there u k actions of goals
