use Rattle.metis_universe.proofs.Demands.{demand_one}
use Rattle.metis_universe.proofs.laws.what_is_required_is_demanded.Goals as goal

pub returns : goal.returns
returns c = demand_one
