use Rattle.metis_completion.proofs.Avoiding.{bound_unavoided}
use Rattle.metis_completion.proofs.laws.fresh_binds_go_to_what_is_not_avoided.Goals as goal

pub returns : goal.returns
returns c = bound_unavoided
