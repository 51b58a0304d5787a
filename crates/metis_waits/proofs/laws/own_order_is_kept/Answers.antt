use Rattle.metis_waits.proofs.PrintedOrder.{IsKept-numbers, is_complete-numbers, picked-numbers}
use Rattle.metis_waits.proofs.laws.own_order_is_kept.Goals as goal

pub returns-clause-kept : goal.returns-clause-kept
returns-clause-kept c = IsKept-numbers

pub returns-clause-complete : goal.returns-clause-complete
returns-clause-complete c = is_complete-numbers

pub returns-clause-same : goal.returns-clause-same
returns-clause-same c = picked-numbers
