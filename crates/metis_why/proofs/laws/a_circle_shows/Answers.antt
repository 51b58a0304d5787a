use Rattle.metis_why.proofs.Circled.{circle_shows}
use Rattle.metis_why.proofs.laws.a_circle_shows.Goals as goal

pub returns : goal.returns
returns c = circle_shows
