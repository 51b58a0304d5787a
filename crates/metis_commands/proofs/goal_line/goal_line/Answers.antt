use Rattle.std.proofs.Common.{append_assoc}
use Rattle.metis_commands.proofs.goal_line.goal_line.Goals as goal

pub returns : goal.returns
returns c = rw (← c.goal_names.ensures) (simp append_assoc c.format.ensures.ok)
