use Rattle.metis_why.proofs.Tried.{tried_nearest}
use Rattle.metis_why.proofs.laws.trying_comes_to_the_nearest.Goals as goal

pub returns : goal.returns
returns c = tried_nearest
