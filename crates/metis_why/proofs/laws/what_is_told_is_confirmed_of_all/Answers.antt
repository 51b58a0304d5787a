use Rattle.metis_why.proofs.Told.{confirmed_of_all}
use Rattle.metis_why.proofs.laws.what_is_told_is_confirmed_of_all.Goals as goal

pub returns : goal.returns
returns c u goals g lines k first why = confirmed_of_all u k goals g lines first why
