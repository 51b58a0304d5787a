use Rattle.metis_rollout.proofs.Guarding.{takes_late}
use Rattle.metis_rollout.proofs.removal_laws.guarded_orders_take_late.Goals as goal

pub returns : goal.returns
returns c = takes_late
