use Rattle.metis_rounds.proofs.Reaches.{stuck_left}
use Rattle.metis_rounds.proofs.laws.stopped_rounds_leave_the_stuck.Goals as goal

pub returns : goal.returns
returns c = λ u w ns formed safe stopped. stuck_left u w formed ns safe stopped
