use Rattle.metis_top.proofs.Codes.{codes_apart, only_done}
use Rattle.metis_top.proofs.laws.codes_tell_statuses.Goals as goal

pub returns-clause-apart : goal.returns-clause-apart
returns-clause-apart c = codes_apart

pub returns-clause-zero : goal.returns-clause-zero
returns-clause-zero c = only_done
