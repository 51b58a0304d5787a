use Rattle.metis_why.proofs.ByChoice.{explained}
use Rattle.metis_why.proofs.laws.what_is_chosen_is_an_explanation.Goals as goal

pub returns : goal.returns
returns c = explained
