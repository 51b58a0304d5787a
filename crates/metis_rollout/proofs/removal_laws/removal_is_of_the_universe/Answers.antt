use Rattle.metis_rollout.proofs.Within.{removal_within}
use Rattle.metis_rollout.proofs.removal_laws.removal_is_of_the_universe.Goals as goal

pub returns : goal.returns
returns c = removal_within
