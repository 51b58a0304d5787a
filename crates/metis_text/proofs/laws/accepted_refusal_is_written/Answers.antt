use Rattle.metis_text.specs.Terms.{refusal_parts}
use Rattle.metis_text.proofs.RefusalRead.{refusal_is}
use Rattle.metis_text.proofs.laws.accepted_refusal_is_written.Goals as goal

pub returns : goal.returns
returns c = λ u bytes set lacks read. refusal_is u bytes (refusal_parts lacks set) read
