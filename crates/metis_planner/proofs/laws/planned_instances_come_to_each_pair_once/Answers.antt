use Rattle.metis_planner.proofs.Once.{comes_once}
use Rattle.metis_planner.proofs.laws.planned_instances_come_to_each_pair_once.Goals as goal

pub returns : goal.returns
returns c = comes_once
