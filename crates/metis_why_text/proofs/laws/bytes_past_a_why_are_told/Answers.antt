use Rattle.metis_why_text.proofs.WhyFaults.{past_end_told}
use Rattle.metis_why_text.proofs.laws.bytes_past_a_why_are_told.Goals as goal

pub returns : goal.returns
returns c = λ u lacks lines more table is some. past_end_told u table lacks lines more is some
