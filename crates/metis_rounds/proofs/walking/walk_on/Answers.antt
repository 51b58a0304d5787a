use Rattle.std.proofs.Common.{length, sym, ap, subst, ◌∙◌, arith}
use Rattle.std.proofs.lemmas.List.{length_push}
use Rattle.std.proofs.lemmas.Result.{IfOk-weaker}
use Rattle.metis_lines.proofs.Formed.{lines_formed}
use Rattle.metis_lines.specs.Terms.{plan_of}
use Rattle.metis_rounds.proofs.Closing.{walk_closes, walk_grows, walk_room}
use Rattle.metis_rounds.specs.Terms.{IsWalk}
use Rattle.metis_rounds.proofs.walking.walk_on.Goals as goal

pub returns-then-has-clause-cycle : goal.returns-then-has-clause-cycle
returns-then-has-clause-cycle c =
    let u = c.args.over.now.universe in
    let s = c.args.over.now.support in
    let x = c.args.over.now.lines in
    let formed = lines_formed u s c.keeps_invariant.ensures.over.support x c.keeps_invariant.ensures.over.lines in
    let inv = c.loop-walk.invariant in
    let closes = walk_closes u (plan_of u s x) formed c.loop-walk.walk inv.walk inv.some c.next_step-event.result c.next_step-event.ensures (sym c.has.ensures ∙ c.if-has.true) in
    IfOk-weaker c.cycle_from.result _ _ (λ es is. is ∙ sym closes) c.cycle_from.ensures

pub loop-walk-smaller : goal.loop-walk-smaller
loop-walk-smaller c =
    let w = plan_of c.args.over.now.universe c.args.over.now.support c.args.over.now.lines in
    let es = c.loop-walk.walk in
    let e = c.next_step-event.result in
    let room = walk_room w es e c.loop-walk.invariant.walk c.next_step-event.ensures.stuck (sym c.has.ensures ∙ c.if-has.false) in
    let pushed = ap length c.in_ok-push.ensures.pushed in
    let long = length_push es e in
    omega arith

pub loop-walk-preserved : goal.loop-walk-preserved
loop-walk-preserved c =
    let w = plan_of c.args.over.now.universe c.args.over.now.support c.args.over.now.lines in
    let es = c.loop-walk.walk in
    let e = c.next_step-event.result in
    let inv = c.loop-walk.invariant in
    let pushed = ap length c.in_ok-push.ensures.pushed in
    let long = length_push es e in
    record {
      walk = subst (IsWalk w) (sym c.in_ok-push.ensures.pushed) (walk_grows w es e inv.walk inv.some c.next_step-event.ensures (sym c.has.ensures ∙ c.if-has.false));
      some = omega arith;
    }
