use Rattle.metis_layers.proofs.Order.{attained_set}
use Rattle.metis_layers.proofs.laws.layers_are_attainable.Goals as goal

pub returns : goal.returns
returns c = attained_set
