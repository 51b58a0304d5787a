use Rattle.metis_rollout.proofs.Rolling.{fresh_stand, old_stand}
use Rattle.metis_rollout.proofs.laws.what_stands_during_a_rollout.Goals as goal

pub returns-clause-old : goal.returns-clause-old
returns-clause-old c = λ u old fresh ks k s t kept each few. old_stand u k old fresh s t ks kept each few

pub returns-clause-fresh : goal.returns-clause-fresh
returns-clause-fresh c = λ u old fresh ks k s t kept each. fresh_stand u k old fresh s t ks kept each
