use Rattle.std.proofs.lemmas.List.Elements.{All-from_recursion}
use Rattle.metis_waits.proofs.KeptRuns.{kept_end}
use Rattle.metis_universe.specs.Terms.{picked}
use Rattle.metis_place.specs.Terms.{seats}
use Rattle.metis_place.proofs.SeatFacts.{here_is_there, seats_are_made, sizes_are}
use Rattle.metis_place.proofs.laws.seats_are_the_instances.Goals as goal

pub returns-clause-each : goal.returns-clause-each
returns-clause-each c = seats_are_made

pub returns-clause-here : goal.returns-clause-here
returns-clause-here c = λ u actions ks z run steady kept. here_is_there u (picked actions ks) z (kept_end u actions run steady ks kept).run

pub returns-clause-sizes : goal.returns-clause-sizes
returns-clause-sizes c = λ u h actions ks k run steady kept. All-from_recursion _ (seats h actions) (sizes_are actions u k h run steady ks kept)
