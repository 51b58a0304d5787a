use Rattle.std.proofs.Common.{◌≡◌, ◌∙◌, true, arith, get_or, sym}
use Rattle.std.proofs.lemmas.Bool.{eqb-false}
use Rattle.std.proofs.lemmas.List.{get_or_read}
use Rattle.std.specs.Prelude.{length}
use Rattle.metis_ids.specs.declared.events.Event.TheVariants.{End}
use Rattle.metis_lines.specs.Terms.{plan_of, precedes}
use Rattle.metis_audit.proofs.Rounds.{no_round, round}
use Rattle.metis_audit.specs.Terms.{next_around}
use Rattle.metis_audit.proofs.cycles.is_cycle.Goals as goal
use borrow.Author.Count.{below_more}

pub returns-then-not-precedes : goal.returns-then-not-precedes
returns-then-not-precedes c =
    let w = plan_of c.args.over.now.universe c.args.over.now.support c.args.over.now.lines in
    let es = c.args.cycle.now in
    let i = c.loop-index.index in
    let read = get_or_read es i c.index-cycle-index.result c.loop-index-test.true c.index-cycle-index.is End in
    sym (no_round w es i c.loop-index-test.true (sym (c.if-not-precedes.ensures ∙ (λ j. precedes w (c.next_around.ensures j) (read j)))))

pub loop-index-preserved : goal.loop-index-preserved
loop-index-preserved c =
    let w = plan_of c.args.over.now.universe c.args.over.now.support c.args.over.now.lines in
    let es = c.args.cycle.now in
    let i = c.loop-index.index in
    let read = get_or_read es i c.index-cycle-index.result c.loop-index-test.true c.index-cycle-index.is End in
    below_more (λ m. precedes w (next_around es m) (get_or es m End) ≡ true) i c.loop-index.invariant (sym (c.if-not-precedes.ensures ∙ (λ j. precedes w (c.next_around.ensures j) (read j))))

pub returns : goal.returns
returns c =
    let es = c.args.cycle.now in
    let some = eqb-false (length es) 0 (sym c.if-is_empty.ensures) in
    let all = c.loop-index-test.false in
    sym (round (plan_of c.args.over.now.universe c.args.over.now.support c.args.over.now.lines) es (omega arith) (λ m low. c.loop-index.invariant m (omega arith)))
