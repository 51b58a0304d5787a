use Rattle.metis_wishes.proofs.Said.{own_subjects}
use Rattle.metis_wishes.proofs.laws.no_two_wishes_are_about_the_same.Goals as goal

pub returns : goal.returns
returns c = own_subjects
