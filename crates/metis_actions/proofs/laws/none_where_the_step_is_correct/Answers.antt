use Rattle.metis_actions.proofs.FirstReasons.{no_reason}
use Rattle.metis_actions.proofs.laws.none_where_the_step_is_correct.Goals as goal

pub returns : goal.returns
returns c = no_reason
