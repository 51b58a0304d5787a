use Rattle.metis_commands.proofs.CrewLines.{length-crew_lines}
use Rattle.metis_commands.proofs.laws.a_crew_has_a_line_for_each_turn.Goals as goal

pub returns : goal.returns
returns c = length-crew_lines
