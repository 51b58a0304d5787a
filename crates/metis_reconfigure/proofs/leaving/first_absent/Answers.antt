use Rattle.std.proofs.Common.{◌+◌, drop, sym, ap, ◌∙◌}
use Rattle.std.specs.List.{filter_map, find}
use Rattle.std.specs.Option.{option_or}
use Rattle.std.proofs.lemmas.List.{drop_all}
use Rattle.metis_wishes.specs.Terms.{instance_of, subject_of}
use Rattle.metis_reconfigure.specs.Terms.{is_absent}
use Rattle.metis_reconfigure.proofs.Picking.{first_named}
use Rattle.metis_reconfigure.proofs.leaving.first_absent.Goals as goal

pub returns-in-Some : goal.returns-in-Some
returns-in-Some c =
    let test = is_absent c.args.c.now in
    let ws = c.args.wishes.now in
    let i = c.loop-wish.wish-index in
    let rest = find test (filter_map (λ wish. instance_of (subject_of wish)) (drop (i + 1) ws)) in
    sym (c.loop-wish.invariant ∙ first_named (λ wish. instance_of (subject_of wish)) test ws i c.wish-item.result c.loop-wish-test.true c.wish-item.is
    ∙ ap (λ o. option_or o rest) (sym c.absent_in.ensures ∙ c.in-Some.is))

pub loop-wish-preserved : goal.loop-wish-preserved
loop-wish-preserved c =
    let test = is_absent c.args.c.now in
    let ws = c.args.wishes.now in
    let i = c.loop-wish.wish-index in
    let rest = find test (filter_map (λ wish. instance_of (subject_of wish)) (drop (i + 1) ws)) in
    c.loop-wish.invariant ∙ first_named (λ wish. instance_of (subject_of wish)) test ws i c.wish-item.result c.loop-wish-test.true c.wish-item.is
    ∙ ap (λ o. option_or o rest) (sym c.absent_in.ensures ∙ c.in_default.is)

pub returns : goal.returns
returns c = sym (c.loop-wish.invariant ∙ ap (λ ws. find (is_absent c.args.c.now) (filter_map (λ wish. instance_of (subject_of wish)) ws)) (drop_all c.loop-wish.wish-index c.args.wishes.now c.loop-wish-test.false))
