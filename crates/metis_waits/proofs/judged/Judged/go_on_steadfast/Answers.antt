use Rattle.std.proofs.Common.{◌≡◌, ◌∙◌, Some, ap, sym, subst}
use Rattle.std.specs.List.{slice_get}
use Rattle.std.proofs.lemmas.Option.{slice_get-get_or}
use Rattle.metis_universe.proofs.Places.{steadfast_at}
use Rattle.metis_waits.proofs.Begun.{IsJudgedTo, begun_to, judged_all, judged_next}
use Rattle.metis_waits.proofs.judged.Judged.go_on_steadfast.Goals as goal

pub loop-index-init : goal.loop-index-init
loop-index-init c = subst (λ i. IsJudgedTo c.args.u.now c.args.actions.now i c.args.self) (sym c.count-start.ensures) (begun_to c.args.u.now c.args.actions.now c.args.self c.requires.begun)

pub returns : goal.returns
returns c = judged_all c.args.u.now c.args.actions.now c.loop-index.index c.loop-index.judged c.loop-index-test.false c.requires.few c.loop-index.invariant

pub take_in-requires-clause-steadfast : goal.take_in-requires-clause-steadfast
take_in-requires-clause-steadfast c =
    let actions = c.args.actions.now in
    let i = c.loop-index.index in
    let a = c.index-actions-index.result in
    steadfast_at c.args.u.now actions i a c.requires.steadfast (slice_get-get_or actions i a c.loop-index-test.true ∙ ap Some (sym c.index-actions-index.is))

pub loop-index-preserved : goal.loop-index-preserved
loop-index-preserved c =
    let actions = c.args.actions.now in
    let i = c.loop-index.index in
    let a = c.index-actions-index.result in
    let is : slice_get actions i ≡ Some a = slice_get-get_or actions i a c.loop-index-test.true ∙ ap Some (sym c.index-actions-index.is) in
    judged_next c.args.u.now actions i a c.loop-index.judged c.take_in.new.self is (steadfast_at c.args.u.now actions i a c.requires.steadfast is)
    c.loop-index.invariant c.in_ok-take_in.ensures.summary c.in_ok-take_in.ensures.each c.in_ok-take_in.ensures.others
