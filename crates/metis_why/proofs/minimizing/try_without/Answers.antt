use Rattle.std.proofs.Common.{List, Bool, false, set, sym, subst}
use Rattle.metis_refusal.specs.Terms.{flag}
use Rattle.metis_why.proofs.Fallen.{greatest_after}
use Rattle.metis_why.proofs.Left.{lost_missed, shrunk_greatest}
use Rattle.metis_why.specs.Terms.{AreForced, IsGreatest}
use Rattle.metis_why.proofs.minimizing.try_without.Goals as goal

pub returns-then-not-keeps-clause-missed : goal.returns-then-not-keeps-clause-missed
returns-then-not-keeps-clause-missed c = λ _.
    let u = c.args.target.now.u.now in
    let g = c.args.target.now.goal in
    let kept = c.args.kept.now in
    let forced : AreForced u g (flag kept.known.held) c.spread_without.new.kept.forced =
    subst (λ (f : List Bool). AreForced u g (flag kept.known.held) f) (sym c.in_ok-spread_without.ensures.forced) c.requires.kept.forced in
    lost_missed u g kept.known.held (flag c.spread_without.new.kept.rest.held) c.args.pair c.spread_without.new.kept.forced c.in_ok-spread_without.ensures.shrunk forced (c.keeps.ensures.lost c.if-not-keeps.true)

pub returns-clause-greatest : goal.returns-clause-greatest
returns-clause-greatest c = λ _.
    greatest_after c.args.target.now.u.now (flag (set c.args.kept.now.known.held c.args.pair false)) (flag c.spread_without.new.kept.rest.held) (flag c.settle_in_rounds.new.held) c.in_ok-spread_without.ensures.shrunk c.settle_in_rounds.ensures

pub returns-clause-missed : goal.returns-clause-missed
returns-clause-missed c = λ off.
    let u = c.args.target.now.u.now in
    let g = c.args.target.now.goal in
    let kept = c.args.kept.now in
    let x = flag (set kept.known.held c.args.pair false) in
    let z = flag c.settle_in_rounds.new.held in
    let most : IsGreatest u x z = greatest_after u x (flag c.spread_without.new.kept.rest.held) z c.in_ok-spread_without.ensures.shrunk c.settle_in_rounds.ensures in
    let forced : AreForced u g (flag kept.known.held) c.spread_without.new.kept.forced =
    subst (λ (f : List Bool). AreForced u g (flag kept.known.held) f) (sym c.in_ok-spread_without.ensures.forced) c.requires.kept.forced in
    lost_missed u g kept.known.held z c.args.pair c.spread_without.new.kept.forced (shrunk_greatest u x z most) forced (c.keeps-is_enough.ensures.lost off)
