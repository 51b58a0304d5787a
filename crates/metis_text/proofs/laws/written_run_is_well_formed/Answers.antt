use Rattle.metis_text.proofs.WrittenRun.{run_formed}
use Rattle.metis_text.proofs.laws.written_run_is_well_formed.Goals as goal

pub returns : goal.returns
returns c = run_formed
