use Rattle.metis_completion.proofs.Nothing.{completed_none, residual_none}
use Rattle.metis_completion.proofs.laws.nothing_given_leaves_all.Goals as goal

pub returns-clause-universe : goal.returns-clause-universe
returns-clause-universe c = residual_none

pub returns-clause-list : goal.returns-clause-list
returns-clause-list c = completed_none
