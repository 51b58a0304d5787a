use Rattle.std.proofs.Common.{◌≡◌, arith}
use Rattle.metis_emit.specs.Terms.{entered}
use Rattle.metis_lines.specs.Terms.{line_at}
use Rattle.metis_audit.proofs.walks.first_open.Goals as goal
use borrow.Author.Count.{below_more}

pub returns-then-not-is_whole : goal.returns-then-not-is_whole
returns-then-not-is_whole c = λ actions are.
    let n = c.loop-number.number in
    let test = c.loop-number-test.true in
    let count = c.count-number-end.ensures.count in
    record {
      within = omega arith;
      fails = c.if-not-is_whole.ensures (entered c.args.u.now n actions) (are.each n (omega arith));
      before = λ m low. c.loop-number.invariant actions are m low;
    }

pub loop-number-preserved : goal.loop-number-preserved
loop-number-preserved c = λ actions are.
    let n = c.loop-number.number in
    let test = c.loop-number-test.true in
    let count = c.count-number-end.ensures.count in
    below_more (λ m. entered c.args.u.now m actions ≡ line_at c.args.l.now m) n (c.loop-number.invariant actions are) (c.if-not-is_whole.ensures (entered c.args.u.now n actions) (are.each n (omega arith)))

pub returns : goal.returns
returns c = λ actions are m low.
    let test = c.loop-number-test.false in
    let count = c.count-number-end.ensures.count in
    c.loop-number.invariant actions are m (omega arith)
