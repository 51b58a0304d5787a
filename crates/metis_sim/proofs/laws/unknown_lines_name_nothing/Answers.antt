use Rattle.metis_sim.proofs.FormReplies.{unknown_exactly}
use Rattle.metis_sim.proofs.laws.unknown_lines_name_nothing.Goals as goal

pub returns : goal.returns
returns c = unknown_exactly
