use Rattle.metis_why.proofs.Chosen.{choice_one}
use Rattle.metis_why.proofs.laws.choice_comes_to_one_explanation.Goals as goal

pub returns : goal.returns
returns c = choice_one
