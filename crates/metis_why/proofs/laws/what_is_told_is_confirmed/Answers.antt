use Rattle.metis_why.proofs.Told.{confirmed}
use Rattle.metis_why.proofs.laws.what_is_told_is_confirmed.Goals as goal

pub returns : goal.returns
returns c = confirmed
