use Rattle.metis_support.proofs.Selections.{provider_pairs-slots}
use Rattle.metis_support.proofs.laws.provider_pairs_have_slots.Goals as goal

pub returns : goal.returns
returns c = provider_pairs-slots
