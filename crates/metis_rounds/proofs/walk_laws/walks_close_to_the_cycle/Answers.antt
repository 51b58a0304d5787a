use Rattle.metis_rounds.proofs.Closing.{walk_closes}
use Rattle.metis_rounds.proofs.walk_laws.walks_close_to_the_cycle.Goals as goal

pub returns : goal.returns
returns c = walk_closes
