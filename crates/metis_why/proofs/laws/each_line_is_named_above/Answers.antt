use Rattle.metis_why.proofs.Stepped.{named_above}
use Rattle.metis_why.proofs.laws.each_line_is_named_above.Goals as goal

pub returns : goal.returns
returns c = named_above
