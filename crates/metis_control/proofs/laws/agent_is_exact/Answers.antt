use Rattle.metis_control.proofs.Exact.{again_exact, ahead_exact, executed_exact, not_mine_exact}
use Rattle.metis_control.proofs.laws.agent_is_exact.Goals as goal

pub returns-clause-not_mine : goal.returns-clause-not_mine
returns-clause-not_mine c = not_mine_exact

pub returns-clause-again : goal.returns-clause-again
returns-clause-again c = again_exact

pub returns-clause-ahead : goal.returns-clause-ahead
returns-clause-ahead c = ahead_exact

pub returns-clause-executed : goal.returns-clause-executed
returns-clause-executed c = executed_exact
