use Rattle.metis_replay.proofs.Verdicts.{exact}
use Rattle.metis_replay.proofs.laws.replay_is_exact.Goals as goal

pub returns : goal.returns
returns c = exact
