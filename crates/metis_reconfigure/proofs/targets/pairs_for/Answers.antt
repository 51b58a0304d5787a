use Rattle.std.proofs.Common.{◌++◌, ◌∷◌, [], take, sym, ap, ◌∙◌, append-nil}
use Rattle.std.specs.List.{cons_option, filter_map}
use Rattle.metis_reconfigure.specs.Terms.{pair_in}
use Rattle.metis_reconfigure.proofs.Tables.{paired_more}
use Rattle.metis_reconfigure.proofs.targets.pairs_for.Goals as goal
use Rattle.metis_reconfigure.proofs.targets.pairs_for.Goals.{in-Some+in_ok-push, in_default}

pub loop-goal-preserved : goal.loop-goal-preserved
loop-goal-preserved c =
    let l = c.args.v.now in
    let goals = c.args.missing.now in
    let i = c.loop-goal.goal-index in
    let g = c.goal-item.result in
    let first = filter_map (pair_in l) (take i goals) in
    let more = paired_more l goals i g c.loop-goal-test.true c.goal-item.is in
    elim c.match-pair_in.branch [
      | in-Some+in_ok-push w ↦
          ap (λ v. v.items) w.pairs-is ∙ w.in_ok-push.ensures.items ∙ ap (λ ps. ps ++ w.in-Some.pair ∷ []) c.loop-goal.invariant
          ∙ sym (more ∙ ap (λ o. first ++ cons_option o []) (sym c.pair_in.ensures ∙ w.in-Some.is))
      | in_default w ↦
          ap (λ v. v.items) w.pairs-is ∙ c.loop-goal.invariant
          ∙ sym (more ∙ ap (λ o. first ++ cons_option o []) (sym w.in_default.ensures) ∙ append-nil first)
    ]
