use Rattle.std.proofs.Common.{◌+◌, [], take, sym, ◌∙◌, subst}
use Rattle.std.specs.List.{AllZip}
use Rattle.std.proofs.lemmas.List.{take_all}
use Rattle.std.proofs.lemmas.List.Elements.{All-get_or}
use Rattle.metis_universe.specs.Terms.{IsGoalOf}
use Rattle.metis_choice.proofs.Resolving.{IsChosen, all_layered, all_low, chosen_attained, chosen_by, chosen_more, first_lacked, first_refused, first_unattained, lacked_by, none_lacked, pairs_attained, pairs_chosen}
use Rattle.metis_choice.proofs.resolution.resolve.Goals as goal

pub loop-goal-init : goal.loop-goal-init
loop-goal-init c = subst (λ ps. AllZip (IsChosen c.args.u.now) [] ps) (sym c.new-pairs.ensures.items) tt

pub loop-goal-preserved : goal.loop-goal-preserved
loop-goal-preserved c =
    let u = c.args.u.now in
    let goals = c.args.goals.now in
    let i = c.loop-goal.goal-index in
    let g = c.goal-item.result in
    let there = subst (IsGoalOf u) (sym c.goal-item.is) (All-get_or (IsGoalOf u) goals i g c.loop-goal-test.true c.requires.within) in
    let chosen = chosen_by u c.args.layers.now c.requires.layers g c.in-Some.pair there (sym c.pair_for.ensures ∙ c.in-Some.is) in
    subst (λ ps. AllZip (IsChosen u) (take (i + 1) goals) ps) (sym c.in_ok-push-in-Some.ensures.items)
    (chosen_more u goals c.loop-goal.pairs.items i g c.in-Some.pair c.loop-goal-test.true c.goal-item.is c.loop-goal.invariant chosen)

pub returns-in-None-clause-lacks : goal.returns-in-None-clause-lacks
returns-in-None-clause-lacks c =
    let u = c.args.u.now in
    let goals = c.args.goals.now in
    let i = c.loop-goal.goal-index in
    let g = c.goal-item.result in
    let there = subst (IsGoalOf u) (sym c.goal-item.is) (All-get_or (IsGoalOf u) goals i g c.loop-goal-test.true c.requires.within) in
    first_refused u c.keeps_invariant.ensures.universe goals g
    (first_lacked u goals c.loop-goal.pairs.items i g c.loop-goal-test.true c.goal-item.is c.loop-goal.invariant (lacked_by u c.args.layers.now c.requires.layers g there (sym c.pair_for.ensures ∙ c.in-None.is)))

pub returns-in-None-clause-unattained : goal.returns-in-None-clause-unattained
returns-in-None-clause-unattained c = first_unattained c.args.u.now c.keeps_invariant.ensures.universe c.args.goals.now c.goal-item.result (returns-in-None-clause-lacks c).1

all_chosen : (c : goal.After-loop-goal) → AllZip (IsChosen c.args.u.now) c.args.goals.now c.loop-goal.pairs.items
all_chosen c = subst (λ gs. AllZip (IsChosen c.args.u.now) gs c.loop-goal.pairs.items) (take_all c.loop-goal.goal-index c.args.goals.now c.loop-goal-test.false) c.loop-goal.invariant

pub returns-clause-none : goal.returns-clause-none
returns-clause-none c = none_lacked c.args.u.now c.args.goals.now c.loop-goal.pairs.items (all_chosen c)

pub returns-clause-pairs : goal.returns-clause-pairs
returns-clause-pairs c = pairs_chosen c.args.u.now c.args.goals.now c.loop-goal.pairs.items (all_chosen c)

pub returns-clause-of_universe : goal.returns-clause-of_universe
returns-clause-of_universe c = all_low c.args.u.now c.args.goals.now c.loop-goal.pairs.items (all_chosen c)

pub returns-clause-layered : goal.returns-clause-layered
returns-clause-layered c = all_layered c.args.u.now c.args.goals.now c.loop-goal.pairs.items (all_chosen c)

pub returns-clause-attained : goal.returns-clause-attained
returns-clause-attained c = chosen_attained c.args.u.now c.keeps_invariant.ensures.universe c.args.goals.now c.loop-goal.pairs.items (all_chosen c)

pub returns-clause-pairs_attained : goal.returns-clause-pairs_attained
returns-clause-pairs_attained c = pairs_attained c.args.u.now c.keeps_invariant.ensures.universe c.args.goals.now c.loop-goal.pairs.items (all_chosen c)
