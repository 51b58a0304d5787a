use Rattle.metis_reconfigure.proofs.InTheEnd.{none_leaves, nothing_again, nothing_for_nothing}
use Rattle.metis_reconfigure.proofs.NothingDone.{nothing_done}
use Rattle.metis_reconfigure.proofs.goal_laws.nothing_is_done_for_nothing.Goals as goal

pub returns-clause-leaves : goal.returns-clause-leaves
returns-clause-leaves c = none_leaves

pub returns-clause-made : goal.returns-clause-made
returns-clause-made c = nothing_for_nothing

pub returns-clause-done : goal.returns-clause-done
returns-clause-done c = nothing_done

pub returns-clause-again : goal.returns-clause-again
returns-clause-again c = nothing_again
