use Rattle.std.proofs.Common.{◌∙◌, ap, length, sym}
use Rattle.std.proofs.lemmas.List.{length-map}
use Rattle.metis_text.specs.declared.plan_text.PlanText.{PlanText}
use Rattle.metis_waits.proofs.Listed.{length-each}
use Rattle.metis_audit.proofs.auditing.audit_waits.Goals as goal

pub first_other-requires : goal.first_other-requires
first_other-requires c =
    let texts = c.args.text.now.after.items in
    let lists = c.requires.formed.lists in
    let rows = length-map texts (λ ks. ks.items) in
    let each = length-each c.deref.result.now c.in-Ok.waits c.in-Ok.ensures.waits in
    let actions = ap length (c.deref.ensures.value ∙ ap (λ (t : PlanText). t.plan.actions) c.text.view_is) in
    ap length c.deref-in-Ok.ensures.value ∙ ap length (ap (λ (t : PlanText). t.after.items) c.text.view_is) ∙ sym rows ∙ lists ∙ sym (each ∙ actions)
