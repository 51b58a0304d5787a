use Rattle.metis_universe.proofs.Once.{Correct-single}
use Rattle.metis_universe.proofs.laws.one_provider_is_correct.Goals as goal

pub returns : goal.returns
returns c = Correct-single
