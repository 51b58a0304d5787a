use Rattle.std.proofs.Common.{◌∙◌, sym}
use Rattle.std.specs.List.{list_all}
use Rattle.std.proofs.lemmas.Bool.{both_ways}
use Rattle.metis_refusal.specs.Terms.{flag}
use Rattle.metis_why.proofs.Reasons.{all_inside}
use Rattle.metis_why.specs.Terms.{wanted_by}
use Rattle.metis_why.proofs.minimizing.keeps.Goals as goal

pub returns-else-covers-clause-lost : goal.returns-else-covers-clause-lost
returns-else-covers-clause-lost c = λ off x y forced barred covers inside within.
    let wanted = wanted_by c.args.target.now.u.now c.args.target.now.goal in
    both_ways (list_all (flag c.args.held.now) wanted) (sym c.covers.ensures ∙ off) (all_inside (flag c.args.held.now) y wanted within covers)
