use Rattle.std.proofs.Common.{◌≡◌, List, Bool, rules, set, sym, subst, true}
use Rattle.metis_refusal.specs.Terms.{flag}
use Rattle.metis_why.proofs.Forced.{forced_more}
use Rattle.metis_why.proofs.Left.{lost_missed}
use Rattle.metis_why.specs.Terms.{AreForced, IsFrom, IsMissed}
use Rattle.metis_why.specs.declared.falling.Falling.{Falling}
use Rattle.metis_why.proofs.minimizing.force_one.Goals as goal

pub returns-clause-kept : goal.returns-clause-kept
returns-clause-kept c =
    let u = c.args.target.now.u.now in
    let g = c.args.target.now.goal in
    let kept = c.args.kept.now in
    let known = c.in_ok-spread_without.ensures.known in
    let flags = c.spread_without.new.kept.forced in
    let forced : AreForced u g (flag kept.known.held) flags =
    subst (λ (f : List Bool). AreForced u g (flag kept.known.held) f) (sym c.in_ok-spread_without.ensures.forced) c.requires.kept.forced in
    let same : c.args.pair ≡ c.pair.inside.0 = search rules in
    let missed : IsMissed u g (flag kept.known.held) c.args.pair =
    lost_missed u g kept.known.held (flag c.spread_without.new.kept.rest.held) c.args.pair flags c.in_ok-spread_without.ensures.shrunk forced (c.keeps.ensures.lost c.if-keeps.false) in
    record {
      from = subst (IsFrom u) (sym known) c.requires.kept.from;
      forced = subst (λ (k : Falling). AreForced u g (flag k.held) (set flags c.pair.inside.0 true)) (sym known)
          (forced_more u g (flag kept.known.held) flags c.pair.inside.0 forced (subst (IsMissed u g (flag kept.known.held)) same missed));
    }
