use Rattle.metis_ujson.proofs.OneLine.{IsLine-canonical}
use Rattle.metis_ujson.proofs.laws.written_is_a_line.Goals as goal

pub returns : goal.returns
returns c = IsLine-canonical
