use Rattle.std.proofs.Common.{◌≡◌, ℕ, ◌<◌, ◌≤◌, get_or, length, sym, ap, ◌∙◌, subst}
use Rattle.std.specs.List.{filter}
use Rattle.metis_completion.specs.Terms.{given_in}
use Rattle.metis_universe.specs.Terms.{provides}
use Rattle.metis_reconfigure.proofs.Rebinds.{all_candidates, gives_not, is_other, next_chosen, passes_not}
use Rattle.metis_reconfigure.proofs.rebinding.candidates.Goals as goal
use Rattle.metis_reconfigure.proofs.rebinding.candidates.Goals.{then-serves+then-is_other-2+in_ok-push-2, else-serves, else-serves-via-then-serves+else-is_other-2, else-serves-via-else-serves}

pub loop-fresh-preserved : goal.loop-fresh-preserved
loop-fresh-preserved c =
    let u = c.args.u.now in
    let port = c.args.port in
    let test = is_other c.args.c.now c.args.z port in
    let gives = λ (p : ℕ). provides u p port in
    let first = filter test (given_in c.args.givers.now.given.now port) in
    let now = c.loop-fresh.others.items in
    let es = c.args.givers.now.fresh.items in
    let i = c.loop-fresh.fresh-index in
    let e = c.loop-fresh-item.result in
    let same : c.deref-fresh-items.result.now ≡ es = c.deref-fresh-items.ensures.value in
    let low : i < length es = subst (λ l. i < length l) same c.loop-fresh-test.true in
    let is : e ≡ get_or es i e = c.loop-fresh-item.is ∙ ap (λ l. get_or l i e) same in
    elim c.if-serves.branch [
      | then-serves+then-is_other-2+in_ok-push-2 w ↦
          ap (λ v. v.items) w.others-is ∙ next_chosen gives test first now es i e low is c.loop-fresh.invariant _
          (sym c.serves.ensures ∙ w.if-serves.true) (sym w.is_other-then-serves.ensures ∙ w.if-is_other-2.true) w.in_ok-push-2.ensures.items
      | else-serves w ↦ ap (λ v. v.items) w.others-is ∙ elim w.else-serves.branch [
        | else-serves-via-then-serves+else-is_other-2 w' ↦
            passes_not gives test first now es i e low is c.loop-fresh.invariant (sym w'.is_other-then-serves.ensures ∙ w'.if-is_other-2.false)
        | else-serves-via-else-serves w' ↦
            gives_not gives test first now es i e low is c.loop-fresh.invariant (sym c.serves.ensures ∙ w'.if-serves.false)
      ]
    ]

pub returns : goal.returns
returns c = λ leaving ts name given_are fresh_are.
    all_candidates c.args.u.now c.args.c.now leaving ts name c.args.z c.args.port (given_in c.args.givers.now.given.now c.args.port) c.args.givers.now.fresh.items c.loop-fresh.others.items c.loop-fresh.fresh-index
    given_are fresh_are (subst (λ l. length l ≤ c.loop-fresh.fresh-index) c.deref-fresh-items.ensures.value c.loop-fresh-test.false) c.loop-fresh.invariant
