use Rattle.std.proofs.Common.{◌≡◌, ◌∙◌, ◌<◌, length, map, get_or, sym, ap, arith}
use Rattle.std.proofs.lemmas.List.{get_or-map, get_or_default}
use Rattle.std.proofs.lemmas.List.Sums.{fold_more}
use Rattle.std.proofs.Math.ListN.{length-map}
use Rattle.metis_ids.specs.declared.events.Event.TheVariants.{End}
use Rattle.metis_rounds.specs.Terms.{use_at, use_event, with_left}
use Rattle.metis_rounds.proofs.least.least_holder.Goals as goal

pub loop-slot-preserved : goal.loop-slot-preserved
loop-slot-preserved c =
    let slots = c.args.slots.now in
    let i = c.loop-slot.slot-index in
    let x = c.args.over.now.lines in
    let low : i < length slots = omega arith in
    let short : i < length (map (use_event x) slots) = simp length-map low in
    let here = get_or-map (use_event x) slots i (0, 0) End low in
    let item : use_at slots i ≡ c.slot-item.result = get_or_default slots i (0, 0) c.slot-item.result low ∙ sym c.slot-item.is in
    let event = c.holder_event.ensures ∙ ap (use_event x) (sym item) ∙ sym here in
    c.with_left-least.ensures ∙ ap (λ e. with_left c.args.taken.now c.loop-slot.least e) event ∙ ap (λ o. with_left c.args.taken.now o (get_or (map (use_event x) slots) i End)) c.loop-slot.invariant ∙ sym (fold_more (with_left c.args.taken.now) c.args.so_far (map (use_event x) slots) i End short)
