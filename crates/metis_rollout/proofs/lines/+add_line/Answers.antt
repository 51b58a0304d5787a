use Rattle.std.proofs.Common.{◌<◌, ◌∙◌, arith, subst, sym}
use Rattle.std.proofs.lemmas.Result.{on_ok_weaker}
use Rattle.std.specs.Prelude.{IsSome}
use Rattle.metis_support.specs.Terms.{level_at}
use Rattle.metis_rollout.specs.Terms.{holder_at}
use Rattle.metis_rollout.proofs.Lined.{line_begins, line_goes}
use Rattle.metis_rollout.proofs.lines.+add_line.Goals as goal

pub add_line-requires : goal.add_line-requires
add_line-requires t c =
    let o = c.requires.support.origin c.args.line.end c.in-Some.origin c.requires.selected (sym c.origin.ensures ∙ c.in-Some.is) in
    let falls : level_at c.args.s.now c.in-Some.origin < t = omega (arith, o.below.lower, c.decreases) in
    (falls, (c.requires.support, (c.requires.truth, (c.requires.firsts, o.below.selected))))

pub add_move-requires-clause-from : goal.add_move-requires-clause-from
add_move-requires-clause-from t c =
    let o = c.requires.support.origin c.args.line.end c.in-Some.origin c.requires.selected (sym c.origin.ensures ∙ c.in-Some.is) in
    c.requires.support.pairs c.in-Some.origin o.below.selected

pub returns-in_ok-add_line-in-Some : goal.returns-in_ok-add_line-in-Some
returns-in_ok-add_line-in-Some t c =
    let some = subst IsSome (c.requires.truth.layers c.args.line.end c.requires.selected) (c.requires.support.layer c.args.line.end c.requires.selected) in
    let from = sym (c.requires.truth.origins c.args.line.end c.requires.selected) ∙ sym c.origin.ensures ∙ c.in-Some.is in
    on_ok_weaker c.add_move.result (line_goes c.args.u.now (holder_at c.args.firsts.now) c.args.line.inst c.args.line.end c.in-Some.origin c.args.actions.now.items c.add_line.new.actions.items c.add_move.new.actions.items some from c.in_ok-add_line-in-Some.ensures) c.add_move.ensures

pub returns-in_ok-push-in-None : goal.returns-in_ok-push-in-None
returns-in_ok-push-in-None t c =
    let some = subst IsSome (c.requires.truth.layers c.args.line.end c.requires.selected) (c.requires.support.layer c.args.line.end c.requires.selected) in
    let none = sym (c.requires.truth.origins c.args.line.end c.requires.selected) ∙ sym c.origin.ensures ∙ c.in-None.is in
    line_begins c.args.u.now (holder_at c.args.firsts.now) c.args.line.inst c.args.line.end c.type_of.result c.args.actions.now.items c.push.new.self.items some none c.type_of.ensures.kind c.in_ok-push-in-None.ensures.items
