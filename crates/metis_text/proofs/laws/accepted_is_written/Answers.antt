use Rattle.metis_text.proofs.Accepted.{accepted_is_text}
use Rattle.metis_text.proofs.laws.accepted_is_written.Goals as goal

pub returns : goal.returns
returns c = accepted_is_text
