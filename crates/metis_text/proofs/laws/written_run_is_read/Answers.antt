use Rattle.metis_text.proofs.WrittenRun.{written_run_read}
use Rattle.metis_text.proofs.laws.written_run_is_read.Goals as goal

pub returns : goal.returns
returns c = written_run_read
