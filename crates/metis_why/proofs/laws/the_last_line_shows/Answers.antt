use Rattle.metis_why.proofs.Circled.{last_shows}
use Rattle.metis_why.proofs.laws.the_last_line_shows.Goals as goal

pub returns : goal.returns
returns c = last_shows
