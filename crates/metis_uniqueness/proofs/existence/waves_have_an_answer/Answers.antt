use Rattle.metis_uniqueness.proofs.AnswersThere.{waved_there}
use Rattle.metis_uniqueness.proofs.existence.waves_have_an_answer.Goals as goal

pub returns : goal.returns
returns c = λ u actions durations k of. waved_there u k actions of durations
