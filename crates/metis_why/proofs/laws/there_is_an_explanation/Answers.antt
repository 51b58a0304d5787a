use Rattle.metis_why.proofs.Found.{found}
use Rattle.metis_why.proofs.laws.there_is_an_explanation.Goals as goal

pub returns : goal.returns
returns c = found
