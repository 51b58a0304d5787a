use Rattle.metis_reconfigure.proofs.InTheEnd.{goals_held_in_the_end}
use Rattle.metis_reconfigure.proofs.NeverLacking.{never_lacks_either}
use Rattle.metis_reconfigure.proofs.goal_laws.the_goals_are_held_in_the_end.Goals as goal

pub returns-clause-held : goal.returns-clause-held
returns-clause-held c = goals_held_in_the_end

pub returns-clause-throughout : goal.returns-clause-throughout
returns-clause-throughout c = λ u wishes old goals r front rest before k answered kept guarded each holds. never_lacks_either u wishes old goals r k answered front rest kept guarded each before holds
