use Rattle.std.proofs.Common.{◌≡◌, ◌∙◌, None, arith, subst, sym}
use Rattle.std.proofs.lemmas.List.{get_or_read}
use Rattle.metis_lines.specs.Terms.{line_at}
use Rattle.metis_audit.proofs.WalkFacts.{noted_at, outside, passed}
use Rattle.metis_audit.specs.Terms.{IsWalk}
use Rattle.metis_audit.proofs.walks.note.Goals as goal

pub returns-then-number-count : goal.returns-then-number-count
returns-then-number-count c = λ actions are.
    let x = c.args.l.now in
    let n = c.number-number.result in
    let walks = c.args.walks.now.items in
    let test = c.if-number-count.true in
    let count = c.count.ensures.count in
    let size = c.requires.count in
    noted_at c.args.u.now x actions c.args.action.now c.in-Some.entry (sym c.entry.ensures ∙ c.in-Some.is) n c.number-number.ensures (omega arith) walks c.onward.result
    (λ pairs walk. c.onward.ensures pairs (subst (IsWalk (line_at x n) pairs) (sym (get_or_read walks n c.index.result.now (omega arith) c.index.ensures None)) walk)) are

pub returns-else-number-count : goal.returns-else-number-count
returns-else-number-count c = λ actions are.
    let test = c.if-number-count.false in
    let same : c.number-number.result ≡ c.in-Some.entry.0 = c.number-number.ensures in
    let count = c.count.ensures.count in
    outside c.args.u.now c.args.l.now actions c.args.action.now c.in-Some.entry (sym c.entry.ensures ∙ c.in-Some.is) (omega arith) c.args.walks.now.items are

pub returns-in_default : goal.returns-in_default
returns-in_default c = λ actions are. passed c.args.u.now c.args.l.now actions c.args.action.now (sym c.entry.ensures ∙ c.in_default.is) c.args.walks.now.items are
