use Rattle.metis_rounds.proofs.Ends.{ended_none}
use Rattle.metis_rounds.proofs.laws.ended_rounds_have_no_cycle.Goals as goal

pub returns : goal.returns
returns c = λ u level w formed rises on_lower ns safe ended cycle. ended_none u w formed cycle level rises on_lower ns safe ended
