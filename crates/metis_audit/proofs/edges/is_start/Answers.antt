use Rattle.std.proofs.Common.{◌∙◌, ap, sym}
use Rattle.metis_lines.specs.Terms.{is_start, plan_of}
use Rattle.metis_audit.proofs.Supplies.{end_starts, start_end}
use Rattle.metis_audit.proofs.edges.is_start.Goals as goal

pub returns-in-End-e : goal.returns-in-End-e
returns-in-End-e c =
    let w = plan_of c.args.over.now.universe c.args.over.now.support c.args.over.now.lines in
    sym (ap (λ e. is_start w e c.args.f.now) c.in-End-e.is ∙ end_starts c.args.over.now.universe c.args.over.now.support c.keeps_invariant.ensures.over.support c.args.over.now.lines c.keeps_invariant.ensures.over.lines c.args.f.now)

pub returns-in-End : goal.returns-in-End
returns-in-End c =
    let w = plan_of c.args.over.now.universe c.args.over.now.support c.args.over.now.lines in
    sym (ap (is_start w c.args.e.now) c.in-End.is ∙ start_end c.args.over.now.universe c.args.over.now.support c.keeps_invariant.ensures.over.support c.args.over.now.lines c.keeps_invariant.ensures.over.lines c.args.e.now)
