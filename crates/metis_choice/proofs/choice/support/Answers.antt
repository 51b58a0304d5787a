use Rattle.std.proofs.Common.{sym, subst}
use Rattle.metis_support.specs.Terms.{IsSupport}
use Rattle.metis_choice.proofs.Chosen.{built, over}
use Rattle.metis_choice.proofs.choice.support.Goals as goal

pub build-requires : goal.build-requires
build-requires c =
    let u = c.args.u.now in
    let g = c.args.targets.now in
    subst (IsSupport u)
    (sym (built u g c.in_ok-selected.selected c.in_ok-origin.origin c.in_ok-layer.layer c.in_ok-provider.provider c.in_ok-selected.ensures.size c.in_ok-selected.ensures.members c.in_ok-origin.ensures c.in_ok-layer.ensures c.in_ok-provider.ensures))
    (over u c.keeps_invariant.ensures.universe g c.requires.layered)
