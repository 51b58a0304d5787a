use Rattle.std.proofs.Common.{◌≡◌, ◌<◌, ℕ, ◌+◌, length, map, refl, sym, ◌∙◌, arith, subst}
use Rattle.std.specs.Prelude.{IsSome}
use Rattle.std.specs.List.{flat_map, range_with_len}
use Rattle.std.proofs.lemmas.Option.{same_Some}
use Rattle.metis_lines.proofs.Slotted.{held_slot}
use Rattle.metis_lines.specs.Terms.{line_at, slot_holding, supply_from}
use Rattle.metis_events.proofs.Adding.{slots_more}
use Rattle.metis_events.proofs.gather.add_slot_supplies.Goals as goal
use Rattle.metis_events.specs.Terms.{Adds, supply_edges, without_supplies}

pub unwrap-holder-requires : goal.unwrap-holder-requires
unwrap-holder-requires c =
    let k : ℕ = c.loop-slot.slot + 1 in
    let there = c.requires.slots k (omega arith) (omega (arith, c.loop-slot-test.true)) in
    subst IsSome (sym (c.holder.ensures ∙ held_slot c.args.over.now.lines c.args.provider k (omega arith) there.number)) refl

pub add_supply-requires-clause-holder : goal.add_supply-requires-clause-holder
add_supply-requires-clause-holder c =
    let k : ℕ = c.loop-slot.slot + 1 in
    let there = c.requires.slots k (omega arith) (omega (arith, c.loop-slot-test.true)) in
    let same = same_Some c.unwrap-holder.result (slot_holding c.args.over.now.lines c.args.provider k) (sym c.unwrap-holder.ensures ∙ c.holder.ensures ∙ held_slot c.args.over.now.lines c.args.provider k (omega arith) there.number) in
    subst (λ (h : ℕ × ℕ). h.0 < length c.args.over.now.lines.lines) (sym same) there.line

pub add_supply-requires-clause-place : goal.add_supply-requires-clause-place
add_supply-requires-clause-place c =
    let k : ℕ = c.loop-slot.slot + 1 in
    let there = c.requires.slots k (omega arith) (omega (arith, c.loop-slot-test.true)) in
    let same = same_Some c.unwrap-holder.result (slot_holding c.args.over.now.lines c.args.provider k) (sym c.unwrap-holder.ensures ∙ c.holder.ensures ∙ held_slot c.args.over.now.lines c.args.provider k (omega arith) there.number) in
    subst (λ (h : ℕ × ℕ). h.1 < length (line_at c.args.over.now.lines h.0)) (sym same) there.place

pub loop-slot-preserved : goal.loop-slot-preserved
loop-slot-preserved c = λ r.
    let x = c.args.over.now.lines in
    let p : ℕ = c.args.provider in
    let l : ℕ = c.args.line in
    let j : ℕ = c.args.station in
    let n : ℕ = c.loop-slot.slot in
    let k : ℕ = n + 1 in
    let there = c.requires.slots k (omega arith) (omega (arith, c.loop-slot-test.true)) in
    let same = same_Some c.unwrap-holder.result (slot_holding x p k) (sym c.unwrap-holder.ensures ∙ c.holder.ensures ∙ held_slot x p k (omega arith) there.number) in
    slots_more (supply_edges (without_supplies x)) (λ k. supply_from l j r k (slot_holding x p k)) n c.args.edges.now c.loop-slot.edges c.add_supply.new.edges (c.loop-slot.invariant r)
    (subst (λ h. Adds (supply_edges (without_supplies x) (supply_from l j r k h)) c.loop-slot.edges c.add_supply.new.edges) same (c.in_ok-add_supply.ensures r k))

pub returns : goal.returns
returns c = λ r.
    let x = c.args.over.now.lines in
    let p : ℕ = c.args.provider in
    let l : ℕ = c.args.line in
    let j : ℕ = c.args.station in
    let all : c.loop-slot.slot ≡ c.args.demand = omega (arith, c.loop-slot-test.false, c.loop-slot.auto.slot-end) in
    subst (λ n. Adds (flat_map (supply_edges (without_supplies x)) (map (λ k. supply_from l j r k (slot_holding x p k)) (range_with_len 1 n))) c.args.edges.now c.loop-slot.edges) all (c.loop-slot.invariant r)
