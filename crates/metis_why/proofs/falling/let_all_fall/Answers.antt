use Rattle.metis_why.proofs.Fallen.{falls_then}
use Rattle.metis_why.proofs.falling.let_all_fall.Goals as goal

pub loop-number-preserved : goal.loop-number-preserved
loop-number-preserved c = falls_then c.args.u.now _ c.loop-number.falling c.let_fall.new.falling c.loop-number.invariant c.in_ok-let_fall.ensures
