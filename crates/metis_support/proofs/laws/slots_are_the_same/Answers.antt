use Rattle.metis_support.proofs.Selections.{same_slots}
use Rattle.metis_support.proofs.laws.slots_are_the_same.Goals as goal

pub returns : goal.returns
returns c u g p universe layered = same_slots u universe g layered p
