use Rattle.metis_universe.proofs.AllFaults.{first_fault-first_of, fault_is_listed}
use Rattle.metis_universe.proofs.laws.first_fault_comes_first.Goals as goal

pub returns-clause-first : goal.returns-clause-first
returns-clause-first c = first_fault-first_of

pub returns-clause-listed : goal.returns-clause-listed
returns-clause-listed c = fault_is_listed
