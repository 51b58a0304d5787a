use Rattle.metis_control.proofs.Scripts.{lines_are_events}
use Rattle.metis_control.specs.Terms.{at_first}
use Rattle.metis_control.proofs.laws.a_script_is_its_events.Goals as goal

pub returns : goal.returns
returns c = λ A lines. lines_are_events A (at_first A) lines
