use Rattle.metis_reconfigure.proofs.Throughout.{never_lacks_any, never_lacks_goals}
use Rattle.metis_reconfigure.proofs.laws.guarded_reconfiguration_never_lacks.Goals as goal

pub returns-clause-configurations : goal.returns-clause-configurations
returns-clause-configurations c = λ u wishes old goals r front rest k ans. never_lacks_any u wishes old goals r k ans front rest

pub returns-clause-goals : goal.returns-clause-goals
returns-clause-goals c = λ u wishes old goals r front rest g h k ans. never_lacks_goals u wishes old goals r k ans front rest g h
