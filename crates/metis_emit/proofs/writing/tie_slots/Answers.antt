use Rattle.std.proofs.Common.{◌≡◌, ℕ, ◌+◌, ◌-◌, ◌++◌, [], ◌∷◌, map, ap, ◌∙◌, arith}
use Rattle.std.specs.List.{range_with_len}
use Rattle.metis_lines.specs.Terms.{slot_holding}
use Rattle.metis_ids.specs.Terms.{tie_action}
use Rattle.metis_emit.proofs.Ported.{slots_made}
use Rattle.metis_emit.proofs.writing.tie_slots.Goals as goal

pub slot_instance-to-requires-clause-high : goal.slot_instance-to-requires-clause-high
slot_instance-to-requires-clause-high c = c.requires (c.args.at.now.held + 1 + c.loop-further.further) (omega arith) (omega (arith, c.loop-further-test.true, c.saturating_sub-further-end.ensures))

pub loop-further-preserved : goal.loop-further-preserved
loop-further-preserved c =
    let x = c.args.over.now.lines in
    let p : ℕ = c.args.at.now.provider in
    let r : ℕ = c.args.at.now.port in
    let v = c.loop-further.actions.items in
    slots_made (λ k. tie_action c.args.tie.now r (slot_holding x p k).0) (c.args.at.now.held + 1) c.loop-further.further c.args.actions.now.items v c.push.new.self.items
    (c.in_ok-push.ensures.items ∙ ap (λ a. v ++ a ∷ []) c.action.ensures ∙ ap (λ y. v ++ tie_action c.args.tie.now r y ∷ []) c.slot_instance-to.ensures) c.loop-further.invariant

pub returns : goal.returns
returns c =
    let x = c.args.over.now.lines in
    let p : ℕ = c.args.at.now.provider in
    let r : ℕ = c.args.at.now.port in
    let all : c.loop-further.further ≡ c.args.at.now.demand - c.args.at.now.held = omega (arith, c.loop-further-test.false, c.loop-further.auto.further-end, c.saturating_sub-further-end.ensures) in
    c.loop-further.invariant ∙ ap (λ n. c.args.actions.now.items ++ map (λ k. tie_action c.args.tie.now r (slot_holding x p k).0) (range_with_len (c.args.at.now.held + 1) n)) all
