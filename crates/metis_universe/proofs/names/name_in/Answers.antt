use Rattle.metis_universe.proofs.NameBytes.{no_name}
use Rattle.metis_universe.proofs.names.name_in.Goals as goal

pub returns-in-Err : goal.returns-in-Err
returns-in-Err c = no_name c.args.bytes.now c.in-Err.ensures.cases.0
