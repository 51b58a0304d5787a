use Rattle.std.proofs.Common.{◌≡◌, ◌<◌, ◌+◌, ◌-◌, ◌++◌, ◌∷◌, [], ◌∙◌, ap, arith, get_or, length, map}
use Rattle.std.specs.List.{range_with_len}
use Rattle.metis_completion.specs.Terms.{given_holder, given_in, slot_ties}
use Rattle.metis_completion.proofs.Slots.{tie_more}
use Rattle.metis_completion.proofs.completing.tie_above.Goals as goal

pub loop-below-preserved : goal.loop-below-preserved
loop-below-preserved c =
    let b = c.loop-below.below in
    let low = c.loop-below.auto.below in
    let inside : b < length (given_in c.args.given.now c.args.port) = omega (arith, c.loop-below-test.true, c.requires) in
    record {
      within = omega (arith, low, c.loop-below-test.true);
      slots = c.in_ok-push.ensures.items ∙ ap (λ a. c.loop-below.actions.items ++ a ∷ []) c.action.ensures
          ∙ tie_more (given_in c.args.given.now) c.args.tie.now c.args.port c.args.held b c.index-standing-below.result c.args.actions.now.items c.loop-below.actions.items low inside
          (c.index-standing-below.is ∙ ap (λ xs. get_or xs b c.index-standing-below.result) c.of-standing.ensures) c.loop-below.invariant.slots;
    }

pub returns : goal.returns
returns c =
    let h = given_holder (given_in c.args.given.now) in
    let a = c.args.held in
    let all : c.loop-below.below - a ≡ c.args.needed - a = omega (arith, c.loop-below.invariant.within, c.loop-below-test.false) in
    c.loop-below.invariant.slots ∙ ap (λ n. c.args.actions.now.items ++ slot_ties c.args.tie.now h (map (λ k. (c.args.port, k)) (range_with_len (a + 1) n))) all
