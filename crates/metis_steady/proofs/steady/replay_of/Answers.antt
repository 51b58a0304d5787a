use Rattle.std.proofs.Common.{ap, sym, ◌∙◌, subst, arith, take}
use Rattle.std.proofs.lemmas.List.{take_all}
use Rattle.metis_universe.specs.Terms.{IsOf}
use Rattle.metis_replay.proofs.Feeding.{fed_next, fed_universe}
use Rattle.metis_replay.specs.Terms.{after_feeding, fed, start}
use Rattle.metis_steady.proofs.steady.replay_of.Goals as goal

pub feed-requires-clause-action : goal.feed-requires-clause-action
feed-requires-clause-action c =
    let actions = c.args.actions.now in
    let i = c.loop-action.action-index in
    let a = c.action-item.result in
    let same = ap (λ s. s.universe) c.loop-action.invariant.fed ∙ fed_universe (start c.args.u.now) (take i actions) in
    subst (λ v. IsOf v a) (sym same) (subst (IsOf c.args.u.now) (sym c.action-item.is) (c.requires.numbers i a c.loop-action-test.true))

pub loop-action-preserved : goal.loop-action-preserved
loop-action-preserved c =
    let a = c.action-item.result in
    record {
      fed = c.in_ok-feed.ensures.ok ∙ ap (λ s. fed s a) c.loop-action.invariant.fed ∙ sym (fed_next c.args.u.now c.args.actions.now c.loop-action.action-index a c.loop-action-test.true c.action-item.is);
    }

pub returns : goal.returns
returns c = c.loop-action.invariant.fed ∙ ap (after_feeding c.args.u.now) (take_all c.loop-action.action-index c.args.actions.now (omega (arith, c.loop-action-test.false)))
