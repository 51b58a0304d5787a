use Rattle.std.proofs.Common.{◌∙◌, ap, sym}
use Rattle.metis_lines.specs.Terms.{is_end}
use Rattle.metis_audit.proofs.Supplies.{taken_at_end, taken_left, taken_none}
use Rattle.metis_audit.specs.Terms.{is_taken}
use Rattle.metis_audit.proofs.edges.is_taken.Goals as goal

pub returns-in-Some : goal.returns-in-Some
returns-in-Some c = c.takes.ensures ∙ taken_left c.args.over.now.universe c.args.over.now.support c.keeps_invariant.ensures.over.support c.args.over.now.lines c.keeps_invariant.ensures.over.lines c.args.e.now c.in-Some.taker c.args.held.now.0 c.args.held.now.1 c.in-Some.ensures

pub returns-in-None : goal.returns-in-None
returns-in-None c = sym (taken_none c.args.over.now.universe c.args.over.now.support c.keeps_invariant.ensures.over.support c.args.over.now.lines c.keeps_invariant.ensures.over.lines c.args.e.now c.args.held.now.0 c.args.held.now.1 c.in-None.ensures (ap is_end c.in-At.is))

pub returns-in-End : goal.returns-in-End
returns-in-End c =
    let u = c.args.over.now.universe in
    let s = c.args.over.now.support in
    let x = c.args.over.now.lines in
    taken_at_end u s c.keeps_invariant.ensures.over.support x c.keeps_invariant.ensures.over.lines c.some_target_takes.result c.args.held.now.0 c.args.held.now.1 c.some_target_takes.ensures
    ∙ ap (λ e. is_taken u s x e c.args.held.now.0 c.args.held.now.1) (sym c.in-End.is)
