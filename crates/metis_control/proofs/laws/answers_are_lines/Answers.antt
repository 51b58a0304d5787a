use Rattle.metis_control.proofs.ToldLines.{script_is_lines}
use Rattle.metis_control.proofs.laws.answers_are_lines.Goals as goal

pub returns : goal.returns
returns c = script_is_lines
