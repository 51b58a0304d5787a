use Rattle.std.proofs.Common.{◌++◌, sym, ap, ◌∙◌}
use Rattle.std.proofs.lemmas.Bool.{both_ways}
use Rattle.metis_ids.specs.Terms.{PairSet}
use Rattle.metis_support.specs.Terms.{Support, is_selected}
use Rattle.metis_universe.specs.Terms.{has}
use Rattle.metis_rounds.specs.Terms.{uses_of}
use Rattle.metis_rounds.proofs.uses.row_of.Goals as goal
use Rattle.metis_rounds.proofs.uses.row_of.Goals.{then-has+in_ok-add_uses, else-has}

pub returns : goal.returns
returns c = λ selected. elim c.if-has.branch [
  | then-has+in_ok-add_uses w ↦ ap (λ v. v.items) w.uses-is ∙ w.in_ok-add_uses.ensures ∙ ap (λ us. us ++ uses_of c.args.over.now.universe c.args.over.now.support c.args.pair) c.new-uses.ensures.items
  | else-has w ↦ absurd (both_ways (is_selected c.args.over.now.support c.args.pair) (sym (c.has.ensures.member ∙ ap (λ (ps : PairSet). has ps.members c.args.pair) (c.selected.ensures.selected ∙ ap (λ (z : Support). z.selected) c.support.ensures)) ∙ w.if-has.false) selected)
]
