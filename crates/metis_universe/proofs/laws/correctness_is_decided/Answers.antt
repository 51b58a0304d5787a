use Rattle.metis_universe.proofs.Correctness.{Decides-is_correct}
use Rattle.metis_universe.proofs.laws.correctness_is_decided.Goals as goal

pub returns : goal.returns
returns c = Decides-is_correct
