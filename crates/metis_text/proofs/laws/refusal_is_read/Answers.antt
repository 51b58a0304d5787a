use Rattle.metis_text.proofs.RefusalRead.{refusal_read}
use Rattle.metis_text.proofs.laws.refusal_is_read.Goals as goal

pub returns : goal.returns
returns c = refusal_read
