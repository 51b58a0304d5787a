use Rattle.metis_crew.proofs.Exact.{did_exact, done_exact, nobody_exact, waits_for_exact}
use Rattle.metis_crew.proofs.laws.turn_is_exact.Goals as goal

pub returns-clause-nobody : goal.returns-clause-nobody
returns-clause-nobody c = nobody_exact

pub returns-clause-done : goal.returns-clause-done
returns-clause-done c = done_exact

pub returns-clause-waits_for : goal.returns-clause-waits_for
returns-clause-waits_for c = waits_for_exact

pub returns-clause-did : goal.returns-clause-did
returns-clause-did c = did_exact
