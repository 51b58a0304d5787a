use Rattle.metis_outside.proofs.Writing.{part_appended}
use Rattle.metis_outside.proofs.system.StdSinkSink.put.Goals as goal

pub returns-in-Err-clause-pieces : goal.returns-in-Err-clause-pieces
returns-in-Err-clause-pieces g c = part_appended _ _ _ c.in-Err.ensures.part
