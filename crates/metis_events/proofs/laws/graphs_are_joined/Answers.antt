use Rattle.metis_events.proofs.Numbered.{joined}
use Rattle.metis_events.proofs.laws.graphs_are_joined.Goals as goal

pub returns : goal.returns
returns c = joined
