use Rattle.metis_reconfigure.specs.Terms.{rebinds_of}
use Rattle.metis_reconfigure.proofs.Rebinds.{all_appended, next_appended}
use Rattle.metis_reconfigure.proofs.rebinding.rebind_all.Goals as goal

pub loop-z-preserved : goal.loop-z-preserved
loop-z-preserved c = λ leaving ts name gives are.
    next_appended (rebinds_of c.args.u.now c.args.c.now leaving ts name) c.args.actions.now.items c.loop-z.actions.items c.rebind.new.actions.items c.args.rebound.now c.loop-z.z-index c.z-item.result c.loop-z-test.true c.z-item.is
    (c.in_ok-rebind.ensures leaving ts name gives are) (c.loop-z.invariant leaving ts name gives are)

pub returns : goal.returns
returns c = λ leaving ts name gives are.
    all_appended (rebinds_of c.args.u.now c.args.c.now leaving ts name) c.args.actions.now.items c.loop-z.actions.items c.args.rebound.now c.loop-z.z-index c.loop-z-test.false (c.loop-z.invariant leaving ts name gives are)
