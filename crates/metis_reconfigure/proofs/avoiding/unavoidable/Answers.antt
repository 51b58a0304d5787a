use Rattle.std.proofs.Common.{◌≡◌, ◌+◌, true, cond, drop, get_or, Some, sym, ap, ◌∙◌}
use Rattle.std.proofs.lemmas.List.{drop_all, drop_more}
use Rattle.std.specs.List.{find}
use Rattle.metis_reconfigure.specs.Terms.{is_unavoidable_by}
use Rattle.metis_reconfigure.proofs.Tables.{first_unavoidable}
use Rattle.metis_reconfigure.proofs.avoiding.unavoidable.Goals as goal

pub returns-then-is_unavoidable : goal.returns-then-is_unavoidable
returns-then-is_unavoidable c = λ left k.
    let goals = c.args.missing.now in
    let test = is_unavoidable_by c.args.u.now c.args.wishes.now c.args.v.now in
    let i = c.loop-goal.goal-index in
    let g = c.goal-item.result in
    let here : test (get_or goals i g) ≡ true = ap test (sym c.goal-item.is) ∙ sym c.is_unavoidable.ensures ∙ c.if-is_unavoidable.true in
    sym (
    sym (first_unavoidable c.args.u.now left c.args.v.now k c.args.wishes.now goals c.requires)
    ∙ c.loop-goal.invariant
    ∙ ap (find test) (drop_more goals i g c.loop-goal-test.true)
    ∙ ap (λ b. cond b (Some (get_or goals i g)) (find test (drop (i + 1) goals))) here
    ∙ ap Some (sym c.goal-item.is)
    )

pub returns : goal.returns
returns c = λ left k.
    let goals = c.args.missing.now in
    let test = is_unavoidable_by c.args.u.now c.args.wishes.now c.args.v.now in
    sym (
    sym (first_unavoidable c.args.u.now left c.args.v.now k c.args.wishes.now goals c.requires)
    ∙ c.loop-goal.invariant
    ∙ ap (find test) (drop_all c.loop-goal.goal-index goals c.loop-goal-test.false)
    )
