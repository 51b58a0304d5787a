use Rattle.metis_text.proofs.Faults.{past_end_told}
use Rattle.metis_text.proofs.laws.bytes_past_the_end_are_told.Goals as goal

pub returns : goal.returns
returns c = λ u p after more table formed some. past_end_told u table p after formed more some
