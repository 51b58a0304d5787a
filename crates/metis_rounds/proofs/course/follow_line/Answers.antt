use Rattle.metis_lines.specs.Terms.{plan_of}
use Rattle.metis_rounds.proofs.Owned.{moved_plan, with_own_plan}
use Rattle.metis_rounds.proofs.course.follow_line.Goals as goal

pub move_returns-requires-clause-before : goal.move_returns-requires-clause-before
move_returns-requires-clause-before c =
    let u = c.args.over.now.universe in
    let s = c.args.over.now.support in
    let z = c.args.over.now.lines in
    let x = c.requires.before.0 in
    let p = c.requires.before.1 in
    let own = c.requires.before.2 in
    let table = c.keeps_invariant.ensures.table in
    let kept = c.keeps_invariant.ensures.over.support in
    (plan_of u s x, c.requires.before.3, with_own_plan u s x z p c.args.held table kept own, moved_plan u s x z p c.args.held table kept own)

pub with_own_line-requires : goal.with_own_line-requires
with_own_line-requires c = record { going = (c.requires.before.0, c.requires.before.1, c.args.returns.now, c.requires.before.2, c.in_ok-move_returns.ensures.grown, c.requires.before.4) }
