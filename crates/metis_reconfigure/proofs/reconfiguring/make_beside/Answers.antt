use Rattle.std.proofs.Common.{◌≡◌, ◌++◌, ℕ, length, subst, sym, ap, ◌∙◌}
use Rattle.std.specs.Prelude.{IsTrue}
use Rattle.std.specs.List.{All, flat_map}
use Rattle.metis_completion.specs.Terms.{completed, given_in}
use Rattle.metis_ids.specs.Terms.{Plan}
use Rattle.metis_rollout.specs.Terms.{free_number, fresh_name, named, news_of, renumbered}
use Rattle.metis_universe.specs.Terms.{IsOf, has}
use Rattle.metis_wishes.specs.Terms.{avoided}
use Rattle.metis_reconfigure.specs.Terms.{given, left_to_plan, named_targets, rebinds_of}
use Rattle.metis_reconfigure.proofs.Aiming.{aims_layered, all_low, layered_attained}
use Rattle.metis_reconfigure.proofs.Making.{all_of, made_beside}
use Rattle.metis_reconfigure.proofs.reconfiguring.make_beside.Goals as goal

pub plan_over-requires-clause-within : goal.plan_over-requires-clause-within
plan_over-requires-clause-within c =
    let a = c.requires.aims in
    let aims = c.args.aims.now in
    rw c.deref.ensures.value (all_low aims.left aims.targets.items (aims_layered c.args.u.now a.0 c.args.c.now c.args.ground.now.leaving.keys a.1 aims.left aims.layers aims.targets.items aims.rebound.items a.3))

pub plan_over-requires-clause-attained : goal.plan_over-requires-clause-attained
plan_over-requires-clause-attained c =
    let a = c.requires.aims in
    let aims = c.args.aims.now in
    rw c.deref.ensures.value (layered_attained aims.left aims.targets.items c.keeps_invariant-2.ensures.universe (aims_layered c.args.u.now a.0 c.args.c.now c.args.ground.now.leaving.keys a.1 aims.left aims.layers aims.targets.items aims.rebound.items a.3))

pub complete-requires : goal.complete-requires
complete-requires c =
    let a = c.requires.aims in
    let u = c.args.u.now in
    let d = c.args.c.now in
    let leaving = c.args.ground.now.leaving.keys in
    let old = c.args.old.now in
    let plan = c.in_ok-plan.plan in
    let shown : c.deref-2.result.now ≡ plan.actions = c.deref-2.ensures.value ∙ ap (λ (p : Plan). p.actions) c.plan.view_is in
    let numbers : All (IsOf (left_to_plan u a.0 d leaving)) plan.actions = subst (λ w. All (IsOf w) plan.actions) a.3.left_is c.in_ok-plan.ensures.numbers in
    subst (All (IsOf u)) (sym (c.deref-3.ensures.value ∙ (c.in_ok-fresh.ensures.actions ∙ ap (renumbered old) shown)))
    (all_of u (λ r. length (given u d leaving r)) (avoided u a.0) (fresh_name old plan.actions) plan.actions numbers)

pub returns : goal.returns
returns c = λ wishes goals g a.
    let u = c.args.u.now in
    let d = c.args.c.now in
    let aims = c.args.aims.now in
    let ground = c.args.ground.now in
    let fresh = c.in_ok-fresh.fresh in
    let old = c.args.old.now in
    let plan = c.in_ok-plan.plan in
    let table = fresh.names.entries in
    let first = c.complete.new.actions.items in
    let shown : c.deref-2.result.now ≡ plan.actions = c.deref-2.ensures.value ∙ ap (λ (p : Plan). p.actions) c.plan.view_is in
    let made : first ≡ completed u (given_in ground.given) fresh.actions.items = c.in_ok-complete.ensures ∙ (λ i. c.new-actions.ensures.items i ++ completed u (given_in ground.given) (c.deref-3.ensures.value i)) in
    made_beside u c.keeps_invariant.ensures.universe wishes old c.requires.old goals d c.requires.left ground.avoided.members ground.free.keys ground.leaving.keys ground.given
    aims.left aims.layers aims.targets.items aims.rebound.items plan table fresh.actions.items first c.rebind_all.new.actions.items fresh.free.used.keys fresh.free.next g a
    (rw (sym c.deref.ensures.value) c.in_ok-plan.ensures)
    (c.in_ok-fresh.ensures.actions ∙ ap (renumbered old) shown)
    made
    (subst (λ xs. (z : ℕ) → IsTrue (has (news_of xs) z) → named table z ≡ fresh_name old xs z) shown c.in_ok-fresh.ensures.names)
    (λ gone targets name gives same.
    c.in_ok-rebind_all.ensures gone targets name (λ r. ap (λ rs. given_in rs r) c.in_ok-givers.ensures.given ∙ gives r) (c.in_ok-givers.ensures.fresh ∙ (ap (named_targets (named table)) c.deref-4.ensures.value ∙ same))
    ∙ ap (λ xs. first ++ flat_map (rebinds_of u d gone targets name) xs) c.deref-5.ensures.value)
    c.in_ok-fresh.ensures.used c.in_ok-fresh.ensures.few
    (c.in_ok-fresh.ensures.next ∙ ap (λ xs. free_number fresh.free.used.keys (length (news_of xs))) shown)
