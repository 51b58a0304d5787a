use Rattle.std.proofs.Common.{ap, ◌∙◌, subst}
use Rattle.std.specs.List.Sorted.{IsStrictlyIncreasing}
use Rattle.metis_choice.proofs.UnderWay.{arrived, begun, onward, taken_low}
use Rattle.metis_choice.proofs.selection.selected_pairs.Goals as goal

pub loop-pair-init : goal.loop-pair-init
loop-pair-init c = begun c.args.u.now c.args.targets.now c.in_ok-work.work c.add_all.new.self (c.in_ok-work.ensures.size ∙ c.pairs.ensures.count) c.in_ok-work.ensures.selected c.in_ok-work.ensures.waiting c.requires.within c.in_ok-add_all.ensures

pub add_needs-requires-clause-pair : goal.add_needs-requires-clause-pair
add_needs-requires-clause-pair c = taken_low c.args.u.now c.args.targets.now c.loop-pair.work c.pop.new.self c.in-Some.pair c.loop-pair.invariant c.in-Some.ensures.selected c.in-Some.ensures.waiting

pub loop-pair-preserved : goal.loop-pair-preserved
loop-pair-preserved c =
    onward c.args.u.now c.args.targets.now c.loop-pair.work c.pop.new.self c.in-Some.pair c.loop-pair.invariant c.in-Some.ensures.selected c.in-Some.ensures.waiting c.add_needs.new.work c.in_ok-add_needs.ensures

pub returns-clause-members : goal.returns-clause-members
returns-clause-members c =
    let w = c.loop-pair.work in
    let same = ap (λ s. s.members) (c.into_selected-set.ensures ∙ c.pop.ensures.selected) in
    same ∙ arrived c.args.u.now c.args.targets.now w c.loop-pair.invariant c.in_default.ensures.waiting (subst IsStrictlyIncreasing same c.keeps_invariant.ensures.ascending)
