use Rattle.metis_why.proofs.Nearest.{needed_where_nearest}
use Rattle.metis_why.proofs.laws.none_of_the_nearest_can_be_left_out.Goals as goal

pub returns : goal.returns
returns c u g order x nearest = needed_where_nearest u g order x nearest
