use Rattle.metis_uniqueness.proofs.Explained.{why_one}
use Rattle.metis_uniqueness.proofs.laws.an_explanation_has_one_answer.Goals as goal

pub returns : goal.returns
returns c = why_one
