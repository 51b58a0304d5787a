use Rattle.metis_place.proofs.HostsKnown.{text_is_read}
use Rattle.metis_place.proofs.laws.hosts_text_is_read.Goals as goal

pub returns : goal.returns
returns c = text_is_read
