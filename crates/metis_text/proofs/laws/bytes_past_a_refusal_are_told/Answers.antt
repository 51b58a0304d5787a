use Rattle.metis_text.proofs.RefusalFaults.{past_end_told}
use Rattle.metis_text.proofs.laws.bytes_past_a_refusal_are_told.Goals as goal

pub returns : goal.returns
returns c = λ u set lacks more table is some. past_end_told u table set lacks more is some
