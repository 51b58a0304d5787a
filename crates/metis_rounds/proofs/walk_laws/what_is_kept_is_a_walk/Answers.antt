use Rattle.metis_rounds.proofs.Kept.{kept_is_walk}
use Rattle.metis_rounds.proofs.walk_laws.what_is_kept_is_a_walk.Goals as goal

pub returns : goal.returns
returns c = kept_is_walk
