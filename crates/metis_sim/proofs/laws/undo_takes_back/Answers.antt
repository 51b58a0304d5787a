use Rattle.metis_sim.proofs.Courses.{taken_back}
use Rattle.metis_sim.proofs.laws.undo_takes_back.Goals as goal

pub returns : goal.returns
returns c = taken_back
