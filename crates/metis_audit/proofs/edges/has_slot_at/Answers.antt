use Rattle.std.proofs.Common.{◌≡◌, ◌+◌, ◌-◌, ◌∙◌, arith, false, sym, ap}
use Rattle.metis_ids.proofs.Lists.{any_counted}
use Rattle.metis_lines.specs.Terms.{holder_of}
use Rattle.metis_audit.proofs.Rounds.{none_in_row}
use Rattle.metis_audit.specs.Terms.{is_at}
use Rattle.metis_audit.proofs.edges.has_slot_at.Goals as goal
use borrow.Author.Count.{below_more}

pub returns-then-is_slot_at : goal.returns-then-is_slot_at
returns-then-is_slot_at c =
    let held = c.args.held.now in
    let low = c.loop-slot-test.true in
    sym (any_counted (is_at held.0 held.1) (holder_of c.args.over.now.lines c.args.provider) 1 c.args.count (c.loop-slot.slot + 1) (omega arith) (omega (arith, low)) (sym c.if-is_slot_at.ensures))

pub loop-slot-preserved : goal.loop-slot-preserved
loop-slot-preserved c =
    let held = c.args.held.now in
    below_more (λ m. is_at held.0 held.1 (holder_of c.args.over.now.lines c.args.provider (m + 1)) ≡ false) c.loop-slot.slot c.loop-slot.invariant (sym c.if-is_slot_at.ensures)

pub returns : goal.returns
returns c =
    let held = c.args.held.now in
    let x = c.args.over.now.lines in
    let p = c.args.provider in
    let past = c.loop-slot-test.false in
    sym (none_in_row (is_at held.0 held.1) (holder_of x p) 1 c.args.count (λ k one few.
    let back : k - 1 + 1 ≡ k = omega arith in
    sym (ap (λ n. is_at held.0 held.1 (holder_of x p n)) back) ∙ c.loop-slot.invariant (k - 1) (omega (arith, one, few, past))))
