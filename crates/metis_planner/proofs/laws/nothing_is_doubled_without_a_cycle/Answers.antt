use Rattle.metis_planner.proofs.Unique.{none_doubled}
use Rattle.metis_planner.proofs.laws.nothing_is_doubled_without_a_cycle.Goals as goal

pub returns : goal.returns
returns c = none_doubled
