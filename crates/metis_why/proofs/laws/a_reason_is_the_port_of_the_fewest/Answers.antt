use Rattle.metis_why.proofs.Tried.{reason_comes, reason_fewest}
use Rattle.metis_why.proofs.laws.a_reason_is_the_port_of_the_fewest.Goals as goal

pub returns-clause-needs : goal.returns-clause-needs
returns-clause-needs c u x q r k low is = reason_fewest u k x q low r is

pub returns-clause-comes : goal.returns-clause-comes
returns-clause-comes c u x q s is waited = reason_comes u x q s is waited
