use Rattle.metis_audit.proofs.DoubledPairs.{doubled}
use Rattle.metis_audit.proofs.laws.justified_texts_double_few.Goals as goal

pub returns : goal.returns
returns c = doubled
