use Rattle.std.proofs.Common.{◌++◌, ◌∷◌, [], ◌∙◌, ap}
use Rattle.metis_ids.specs.declared.actions.Action.TheVariants.{Delete}
use Rattle.metis_rollout.specs.Terms.{named}
use Rattle.metis_rollout.proofs.CycleList.{down_next}
use Rattle.metis_rollout.proofs.cyclic.delete_downward.Goals as goal

pub loop-done-preserved : goal.loop-done-preserved
loop-done-preserved c =
    down_next (named c.args.names.now.entries) c.args.actions.now.items c.loop-done.actions.items c.push.new.self.items c.args.count c.loop-done.done c.loop-done-test.true c.loop-done.invariant
    (c.in_ok-push.ensures.items ∙ ap (λ z. c.loop-done.actions.items ++ Delete z ∷ []) c.name_of.ensures)
