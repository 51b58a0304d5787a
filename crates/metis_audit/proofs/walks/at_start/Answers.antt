use Rattle.std.proofs.Common.{[], arith, subst, sym}
use Rattle.metis_lines.specs.Terms.{line_at}
use Rattle.metis_audit.proofs.WalkFacts.{starts}
use Rattle.metis_audit.specs.Terms.{IsWalk}
use Rattle.metis_audit.proofs.walks.at_start.Goals as goal

pub returns : goal.returns
returns c =
    let test = c.loop-number-test.false in
    let count = c.count-number-end.ensures.count in
    let size = c.loop-number.invariant.0 in
    let end = c.loop-number.auto._number-end in
    record {
      count = omega arith;
      each = λ l low. subst (IsWalk (line_at c.args.l.now l) []) (sym (c.loop-number.invariant.1 l (omega arith))) (starts (line_at c.args.l.now l));
    }
