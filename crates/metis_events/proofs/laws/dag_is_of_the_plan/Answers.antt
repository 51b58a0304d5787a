use Rattle.metis_events.proofs.Numbered.{graph_of_plan}
use Rattle.metis_events.proofs.laws.dag_is_of_the_plan.Goals as goal

pub returns : goal.returns
returns c = graph_of_plan
