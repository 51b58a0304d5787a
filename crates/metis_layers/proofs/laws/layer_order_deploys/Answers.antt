use Rattle.metis_layers.proofs.Order.{deploys}
use Rattle.metis_layers.proofs.laws.layer_order_deploys.Goals as goal

pub returns : goal.returns
returns c = deploys
