use Rattle.std.proofs.Common.{not, ◌||◌, sym, ap, ◌∙◌}
use Rattle.metis_universe.specs.Terms.{has}
use Rattle.metis_reconfigure.specs.Terms.{settled}
use Rattle.metis_reconfigure.proofs.Choosing.{one_skipped, one_taken}
use Rattle.metis_reconfigure.proofs.staying.add_settled.Goals as goal

pub loop-z-preserved-in_ok-insert : goal.loop-z-preserved-in_ok-insert
loop-z-preserved-in_ok-insert c =
    let leaving = c.args.leaving.now.keys in
    one_taken (λ z. not (has leaving z)) (λ z. has c.args.set.now.keys z || has (settled c.args.c.now leaving) z) c.loop-z.set.keys c.insert.new.self.keys (c.in-Some.z, c.in-Some.field-0-1)
    c.loop-z.z-iterator c.next.new.self c.in-Some.ensures.steps (ap not (sym c.holds.ensures ∙ c.if-not-holds.true)) c.in_ok-insert.ensures.keys c.loop-z.invariant

pub loop-z-preserved : goal.loop-z-preserved
loop-z-preserved c =
    let leaving = c.args.leaving.now.keys in
    one_skipped (λ z. not (has leaving z)) (λ z. has c.args.set.now.keys z || has (settled c.args.c.now leaving) z) c.loop-z.set.keys (c.in-Some.z, c.in-Some.field-0-1)
    c.loop-z.z-iterator c.next.new.self c.in-Some.ensures.steps (ap not (sym c.holds.ensures ∙ c.if-not-holds.false)) c.loop-z.invariant
