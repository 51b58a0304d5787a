use Rattle.metis_crew.proofs.Counted.{did_end, did_run}
use Rattle.metis_crew.proofs.laws.turns_are_a_run.Goals as goal

pub returns-clause-run : goal.returns-clause-run
returns-clause-run c = did_run

pub returns-clause-ends_alike : goal.returns-clause-ends_alike
returns-clause-ends_alike c = did_end
