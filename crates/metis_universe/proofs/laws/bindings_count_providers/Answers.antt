use Rattle.metis_universe.proofs.Demands.{is_met-true, met}
use Rattle.metis_universe.proofs.laws.bindings_count_providers.Goals as goal

pub returns : goal.returns
returns c = λ u d z r n k. (met u d k z r n, is_met-true u d z r n)
