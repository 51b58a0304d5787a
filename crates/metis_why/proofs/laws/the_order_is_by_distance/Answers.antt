use Rattle.metis_why.proofs.Farther.{nearer_first, some_cost}
use Rattle.metis_why.proofs.laws.the_order_is_by_distance.Goals as goal

pub returns-clause-within : goal.returns-clause-within
returns-clause-within c u x g order p far there = some_cost u x g order far p there

pub returns-clause-far : goal.returns-clause-far
returns-clause-far c u x g order far = nearer_first u x g order far
