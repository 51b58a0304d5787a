use Rattle.metis_universe.proofs.Once.{IsSingle-version}
use Rattle.metis_universe.proofs.laws.version_1_is_single.Goals as goal

pub returns : goal.returns
returns c = IsSingle-version
