use Rattle.metis_reconfigure.proofs.Using.{given_taken}
use Rattle.metis_reconfigure.proofs.use_laws.what_is_made_takes_what_serves.Goals as goal

pub returns : goal.returns
returns c = λ u wishes old goals r s z p k steady. given_taken u k wishes old steady goals r s z p
