use Rattle.metis_layers.proofs.Short.{order_short}
use Rattle.metis_layers.proofs.laws.layer_order_is_short.Goals as goal

pub returns : goal.returns
returns c = order_short
