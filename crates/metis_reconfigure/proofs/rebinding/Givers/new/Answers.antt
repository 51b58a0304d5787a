use Rattle.std.proofs.Common.{◌++◌, ◌∷◌, [], ap, ◌∙◌}
use Rattle.metis_rollout.specs.Terms.{named}
use Rattle.metis_reconfigure.proofs.Rebinds.{next_named}
use Rattle.metis_reconfigure.proofs.rebinding.Givers.new.Goals as goal

pub loop-number-preserved : goal.loop-number-preserved
loop-number-preserved c =
    let pair = c.index-targets-number.result in
    let fresh = c.loop-number.fresh.items in
    next_named (named c.args.names.now.entries) c.args.targets.now c.loop-number.number pair fresh c.push.new.self.items c.loop-number-test.true c.index-targets-number.is
    (c.in_ok-push.ensures.items ∙ ap (λ n. fresh ++ (n, pair) ∷ []) c.name_of.ensures) c.loop-number.invariant
