use Rattle.std.proofs.Common.{ℕ, Bool, ◌+◌, ◌&&◌, ◌||◌, drop, sym, ap, ◌∙◌}
use Rattle.std.specs.List.{filter_map, find}
use Rattle.std.specs.Option.{option_or}
use Rattle.std.proofs.lemmas.List.{drop_all}
use Rattle.metis_universe.specs.Terms.{has}
use Rattle.metis_wishes.specs.Terms.{instance_of, named, subject_of}
use Rattle.metis_reconfigure.proofs.Picking.{first_named}
use Rattle.metis_reconfigure.proofs.leaving.first_firm_leaving.Goals as goal

pub loop-wish-init : goal.loop-wish-init
loop-wish-init c =
    let leaving = c.args.leaving.now.keys in
    λ i. find (λ z. (sym (c.requires.firm z) i || sym (c.requires.free z) i) && has leaving z) (named c.args.wishes.now)

pub returns-in-Some : goal.returns-in-Some
returns-in-Some c =
    let test : ℕ → Bool = λ z. (has c.args.firm.now.keys z || has c.args.free.now.keys z) && has c.args.leaving.now.keys z in
    let ws = c.args.wishes.now in
    let i = c.loop-wish.wish-index in
    let rest = find test (filter_map (λ wish. instance_of (subject_of wish)) (drop (i + 1) ws)) in
    sym (c.loop-wish.invariant ∙ first_named (λ wish. instance_of (subject_of wish)) test ws i c.wish-item.result c.loop-wish-test.true c.wish-item.is
    ∙ ap (λ o. option_or o rest) (sym c.firm_leaving_in.ensures ∙ c.in-Some.is))

pub loop-wish-preserved : goal.loop-wish-preserved
loop-wish-preserved c =
    let test : ℕ → Bool = λ z. (has c.args.firm.now.keys z || has c.args.free.now.keys z) && has c.args.leaving.now.keys z in
    let ws = c.args.wishes.now in
    let i = c.loop-wish.wish-index in
    let rest = find test (filter_map (λ wish. instance_of (subject_of wish)) (drop (i + 1) ws)) in
    c.loop-wish.invariant ∙ first_named (λ wish. instance_of (subject_of wish)) test ws i c.wish-item.result c.loop-wish-test.true c.wish-item.is
    ∙ ap (λ o. option_or o rest) (sym c.firm_leaving_in.ensures ∙ c.in_default.is)

pub returns : goal.returns
returns c =
    let test : ℕ → Bool = λ z. (has c.args.firm.now.keys z || has c.args.free.now.keys z) && has c.args.leaving.now.keys z in
    sym (c.loop-wish.invariant ∙ ap (λ ws. find test (filter_map (λ wish. instance_of (subject_of wish)) ws)) (drop_all c.loop-wish.wish-index c.args.wishes.now c.loop-wish-test.false))
