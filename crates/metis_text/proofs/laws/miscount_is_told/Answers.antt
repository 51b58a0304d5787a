use Rattle.metis_text.proofs.Faults.{miscounted_told}
use Rattle.metis_text.proofs.laws.miscount_is_told.Goals as goal

pub returns : goal.returns
returns c = λ u p after table formed wrong. miscounted_told u table p after formed wrong
