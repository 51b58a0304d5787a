use Rattle.metis_actions.proofs.FirstReasons.{first_reason}
use Rattle.metis_actions.proofs.laws.each_reason_comes_first.Goals as goal

pub returns : goal.returns
returns c = first_reason
