use Rattle.std.proofs.Common.{append_assoc}
use Rattle.metis_plan_commands.proofs.reconfigure.obstacle_line.Goals as goal

pub returns-in-Unavoidable : goal.returns-in-Unavoidable
returns-in-Unavoidable c = rw (c.in-Unavoidable.is, ← c.goal_names.ensures) (simp append_assoc c.format-in-Unavoidable.ensures.ok)
