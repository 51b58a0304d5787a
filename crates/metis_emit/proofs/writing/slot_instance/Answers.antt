use Rattle.std.proofs.Common.{ℕ, refl, sym, ap, ◌∙◌, subst}
use Rattle.std.specs.Prelude.{IsSome}
use Rattle.std.proofs.lemmas.Option.{same_Some}
use Rattle.metis_lines.proofs.Slotted.{held_slot}
use Rattle.metis_lines.specs.Terms.{slot_holding}
use Rattle.metis_emit.proofs.writing.slot_instance.Goals as goal

pub unwrap-holder-requires : goal.unwrap-holder-requires
unwrap-holder-requires c = subst IsSome (sym (c.holder.ensures ∙ held_slot c.args.over.now.lines c.args.provider c.args.slot c.requires.low c.requires.high)) refl

pub returns : goal.returns
returns c =
    let at = slot_holding c.args.over.now.lines c.args.provider c.args.slot in
    let same = same_Some c.unwrap-holder.result at (sym c.unwrap-holder.ensures ∙ c.holder.ensures ∙ held_slot c.args.over.now.lines c.args.provider c.args.slot c.requires.low c.requires.high) in
    ap (λ (h : ℕ × ℕ). h.0) (c.holder-2.view_is ∙ same)
