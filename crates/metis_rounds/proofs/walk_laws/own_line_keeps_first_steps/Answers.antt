use Rattle.metis_rounds.proofs.Kept.{own_line_keeps}
use Rattle.metis_rounds.proofs.walk_laws.own_line_keeps_first_steps.Goals as goal

pub returns : goal.returns
returns c = own_line_keeps
