use Rattle.std.proofs.Common.{◌≡◌, ◌∙◌, [], ap, refl, subst, sym}
use Rattle.std.specs.Prelude.{IfOk}
use Rattle.metis_ids.specs.Terms.{Plan}
use Rattle.metis_plan_commands.specs.Terms.{IsOfPlan, RollsOutPairs, plan_of, plan_text, rollout_plan}
use Rattle.metis_planner.specs.Terms.{IsByRounds}
use Rattle.metis_plan_commands.proofs.Formed.{rollout_formed}
use Rattle.metis_plan_commands.proofs.MadePlans.{rolled_by}
use Rattle.metis_rollout.specs.Terms.{rollout}
use Rattle.metis_universe.specs.Terms.{IsSteadfastRun, after_all, empty}
use Rattle.metis_plan_commands.proofs.rollout.roll_out_to.Goals as goal

pub returns-clause-rolls : goal.returns-clause-rolls
returns-clause-rolls c =
    let u = c.args.u.now in
    let old = c.args.old.actions.now in
    let fresh = c.in-Ok.fresh in
    let found = c.in-Ok.ensures in
    let steady : IsSteadfastRun u fresh.actions = found.run in
    let none : c.args.pairs.now ≡ [] → after_all u empty (rollout u old fresh.actions) ≡ empty = λ is.
    subst (λ xs. after_all u empty (rollout u old xs) ≡ empty) (sym (c.nothing_is_done_for_no_targets.ensures u fresh (subst (λ g. IsByRounds u g fresh) is found.rounds)).0)
    (c.teardown_leaves_nothing.ensures u old c.keeps_invariant.ensures.universe c.requires.old.steady).1 in
    let never_lacks = c.guarded_rollout_never_lacks.ensures.configurations u old fresh.actions c.keeps_invariant.ensures.universe c.requires.old.steady steady in
    let done = c.rollout_replaces.ensures u old fresh.actions c.keeps_invariant.ensures.universe c.requires.old.steady steady in
    let rolls : RollsOutPairs u old c.args.pairs.now (plan_text u (rollout_plan u old fresh.actions)) = record { attains = c.requires.attained; fresh = fresh; rounds = found.rounds; steady = done.0; ends = done.1; holds = done.2 c.args.pairs.now found.holds; none = none; never_lacks = never_lacks; goes_on = c.guarded_rollout_goes_on.ensures u old fresh.actions; formed = λ table numbered. rollout_formed u table old c.requires.old.steady numbered.numbers numbered.named numbered.short c.args.pairs.now fresh found; told = refl } in
    let shown : c.deref.result.now ≡ fresh.actions = c.deref.ensures.value ∙ ap (λ (p : Plan). p.actions) c.fresh.view_is in
    let actions = c.in_ok-actions.ensures.list ∙ ap (rollout u old) shown in
    rolled_by u old c.args.pairs.now (rollout_plan u old fresh.actions) c.with_no_dups.result rolls
    (subst (λ xs. IfOk c.with_no_dups.result (IsOfPlan (plan_of xs))) actions c.with_no_dups.ensures.plan)
