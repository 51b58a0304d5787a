use Rattle.metis_completion.proofs.ResidualRows.{residual_is_universe}
use Rattle.metis_completion.proofs.laws.residual_is_a_universe.Goals as goal

pub returns : goal.returns
returns c = residual_is_universe
