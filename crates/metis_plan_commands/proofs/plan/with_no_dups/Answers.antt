use Rattle.std.proofs.Common.{◌≡◌, ◌∙◌, ap, subst}
use Rattle.std.specs.List.{count_by}
use Rattle.std.specs.Prelude.{IfOk}
use Rattle.metis_ids.specs.Terms.{Plan, makes}
use Rattle.metis_plan_commands.specs.Terms.{IsOfPlan, plan_of}
use Rattle.metis_plan_commands.proofs.plan.with_no_dups.Goals as goal

pub returns-clause-plan : goal.returns-clause-plan
returns-clause-plan c =
    let plan : Plan = record { actions = c.args.actions.items; dups = c.new.result.items; instances = c.made_by-instances.result } in
    let same : plan ≡ plan_of c.args.actions.items =
    (λ i. record { actions = c.args.actions.items; dups = c.new.ensures.items i; instances = (c.made_by-instances.ensures ∙ ap (count_by makes) c.deref.ensures.value) i }) in
    subst (λ p. IfOk c.with_waits.result (IsOfPlan p)) same c.with_waits.ensures.plan
