use Rattle.std.proofs.Common.{◌≤◌, ◌∙◌, ◌++◌, ap, subst, sym, take_all, length, map}
use Rattle.metis_layers.specs.Terms.{slots_above}
use Rattle.metis_completion.specs.Terms.{given_holder, given_in, slot_ties}
use Rattle.metis_completion.proofs.GivenSlots.{given_demand-few}
use Rattle.metis_completion.proofs.Slots.{slots_gained_of, ties_more}
use Rattle.metis_completion.proofs.completing.add_ties.Goals as goal

pub tie_above-requires : goal.tie_above-requires
tie_above-requires c =
    let given = given_in c.args.given.now in
    let r = c.port-item.result in
    subst (λ n. n ≤ length (given r)) (sym c.taken-needed.ensures) (given_demand-few c.args.u.now given c.args.to r)

pub loop-port-preserved : goal.loop-port-preserved
loop-port-preserved c =
    let u = c.args.u.now in
    let given = given_in c.args.given.now in
    let r = c.port-item.result in
    let i = c.loop-port.port-index in
    c.in_ok-tie_above.ensures ∙ (λ j. c.loop-port.actions.items ++ slot_ties c.args.tie.now (given_holder given) (map (λ k. (r, k)) (slots_above (c.taken-held.ensures j) (c.taken-needed.ensures j))))
    ∙ ties_more u given c.args.tie.now c.args.from c.args.to c.requires_-port-items.result.now i r c.args.actions.now.items c.loop-port.actions.items c.loop-port-test.true c.port-item.is c.loop-port.invariant

pub returns : goal.returns
returns c =
    let u = c.args.u.now in
    let given = given_in c.args.given.now in
    c.loop-port.invariant ∙ ap (λ rs. c.args.actions.now.items ++ slot_ties c.args.tie.now (given_holder given) (slots_gained_of u given c.args.from c.args.to rs)) (take_all c.loop-port.port-index c.requires_-port-items.result.now c.loop-port-test.false ∙ c.requires_-port-items.ensures.ports)
