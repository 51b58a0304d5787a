use Rattle.std.proofs.Common.{◌∷◌, [], sym, ◌∙◌, subst, arith}
use Rattle.metis_choice.specs.Terms.{Adds, WorkList}
use Rattle.metis_choice.proofs.Adding.{adds_new}
use Rattle.metis_choice.proofs.work_list.WorkList.add.Goals as goal

pub returns : goal.returns
returns c =
    let p = c.args.pair in
    let old : WorkList = record { selected = c.self.inside.selected; waiting = c.self.inside.waiting.items } in
    let new : WorkList = record { selected = c.add.new.self; waiting = c.push.new.self.items } in
    subst (λ w. Adds (p ∷ []) w new) c.self.view_is
    (adds_new p old new (sym c.has.ensures.member ∙ c.if-has.false) c.add.ensures.size c.add.ensures.members c.in_ok-push.ensures.items (omega (arith, c.count-count.ensures.count, c.count-count.ensures.within)))
