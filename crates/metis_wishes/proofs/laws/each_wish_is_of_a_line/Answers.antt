use Rattle.metis_wishes.proofs.Said.{each_said}
use Rattle.metis_wishes.proofs.laws.each_wish_is_of_a_line.Goals as goal

pub returns : goal.returns
returns c = each_said
