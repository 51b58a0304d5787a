use Rattle.metis_rollout.proofs.Rolling.{never_lack, never_lack_goals}
use Rattle.metis_rollout.proofs.laws.guarded_rollout_never_lacks.Goals as goal

pub returns-clause-configurations : goal.returns-clause-configurations
returns-clause-configurations c = λ u old fresh k s t front rest kept late each. never_lack u k old fresh s t front rest kept late each

pub returns-clause-goals : goal.returns-clause-goals
returns-clause-goals c = λ u old fresh front rest g h k s t kept late each. never_lack_goals u k old fresh s t front rest kept late each g h
