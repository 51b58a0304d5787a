use Rattle.std.proofs.Common.{sym, ap, ◌∙◌, ◌-◌, arith, take, length}
use Rattle.std.proofs.lemmas.List.{length-take-le, take_all}
use Rattle.metis_rounds.proofs.Steps.{place_high, popped_all, popped_enough, popped_on}
use Rattle.metis_rounds.proofs.walk.Walk.pop_from.Goals as goal

pub loop-self-init : goal.loop-self-init
loop-self-init c =
    let es = c.args.self.now in
    record { first = sym (take_all (length es) es (omega arith)); enough = place_high es c.args.e.now }

pub loop-self-preserved : goal.loop-self-preserved
loop-self-preserved c =
    let s = c.loop-self.self in
    let es = c.args.self.now in
    let inv = c.loop-self.invariant in
    let left = c.pop.ensures in
    let there = sym c.has.ensures ∙ c.loop-self-test.true in
    let enough = popped_enough s es c.args.e.now inv.first there in
    let size = ap length left ∙ length-take-le (length s - 1) s (omega arith) in
    record {
      first = left ∙ popped_on s es inv.first ∙ sym (ap (λ ys. take (length ys) es) left);
      enough = omega arith;
    }

pub returns : goal.returns
returns c = popped_all c.loop-self.self c.args.self.now c.args.e.now c.loop-self.invariant.first c.loop-self.invariant.enough (sym c.has.ensures ∙ c.loop-self-test.false)
