use Rattle.metis_text.proofs.Accepted.{well_formed_read}
use Rattle.metis_text.proofs.laws.well_formed_is_read.Goals as goal

pub returns : goal.returns
returns c = λ u p after table formed. well_formed_read u p after table.universe table.named formed
