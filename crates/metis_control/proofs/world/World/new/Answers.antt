use Rattle.std.proofs.Common.{◌∙◌, ap, refl, arith}
use Rattle.metis_waits.proofs.Listed.{length-each}
use Rattle.metis_control.specs.Terms.{ControllerState}
use Rattle.metis_control.proofs.Happened.{world_made}
use Rattle.metis_control.proofs.world.World.new.Goals as goal

pub agents_of-requires : goal.agents_of-requires
agents_of-requires c = omega (arith, length-each c.args.actions.now c.args.w.now c.requires, c.count-count.ensures.few)

pub invariant_of-result : goal.invariant_of-result
invariant_of-result c =
    world_made c.args.actions.now c.args.actions.now c.in_ok-new.field-0.each c.new-2.result.items c.in_ok-new.field-0.acked c.in_ok-agents_of.field-0.entries c.new-3.result.items
    refl (omega (arith, length-each c.args.actions.now c.args.w.now c.requires, c.count-count.ensures.few)) (ap (λ (s : ControllerState). s.each) c.in_ok-new.ensures ∙ c.requires.each) c.in_ok-agents_of.ensures.owned c.new-2.ensures.items (ap (λ (s : ControllerState). s.acked) c.in_ok-new.ensures) c.in_ok-agents_of.ensures.counts c.new-3.ensures.items
