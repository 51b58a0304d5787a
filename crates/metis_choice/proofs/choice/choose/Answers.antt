use Rattle.std.proofs.Common.{◌≡◌, ℕ, true, Some, sym, ◌∙◌, subst}
use Rattle.std.specs.Prelude.{IsSomeAnd, MatchOption}
use Rattle.metis_universe.proofs.Selected.{selected-least}
use Rattle.metis_universe.specs.Terms.{IsLeastSelection, layer_of, requires}
use Rattle.metis_support.specs.Terms.{IsSupport, is_selected, layer_at, origin_at, provider_at}
use Rattle.metis_choice.proofs.Chosen.{layers, origins, over, providers}
use Rattle.metis_choice.proofs.Lacking.{all_layered, first_without}
use Rattle.metis_choice.specs.Terms.{IsFirstProvider, IsLeastBelow}
use Rattle.metis_choice.proofs.choice.choose.Goals as goal

pub support-requires-clause-layered : goal.support-requires-clause-layered
support-requires-clause-layered c = all_layered c.args.u.now c.args.layers.now c.requires.layers c.args.targets.now c.requires.within (sym c.lacking.ensures ∙ c.in-None.is)

pub returns-in-Some-clause-lacks : goal.returns-in-Some-clause-lacks
returns-in-Some-clause-lacks c = first_without c.args.u.now c.args.layers.now c.requires.layers c.args.targets.now c.in-Some.target c.requires.within (sym c.lacking.ensures ∙ c.in-Some.is)

pub returns-in_ok-support-in-None-clause-layered : goal.returns-in_ok-support-in-None-clause-layered
returns-in_ok-support-in-None-clause-layered c = all_layered c.args.u.now c.args.layers.now c.requires.layers c.args.targets.now c.requires.within (sym c.lacking.ensures ∙ c.in-None.is)

pub returns-in_ok-support-in-None-clause-selected : goal.returns-in_ok-support-in-None-clause-selected
returns-in_ok-support-in-None-clause-selected c =
    subst (λ s. IsLeastSelection c.args.u.now c.args.targets.now s.selected.members) (sym c.in_ok-support-in-None.ensures) (selected-least c.args.u.now c.args.targets.now)

pub returns-in_ok-support-in-None-clause-layers : goal.returns-in_ok-support-in-None-clause-layers
returns-in_ok-support-in-None-clause-layers c =
    let u = c.args.u.now in
    let g = c.args.targets.now in
    let layered = all_layered u c.args.layers.now c.requires.layers g c.requires.within (sym c.lacking.ensures ∙ c.in-None.is) in
    subst (λ s. (p : ℕ) → is_selected s p ≡ true → layer_at s p ≡ layer_of u p) (sym c.in_ok-support-in-None.ensures) (layers u c.keeps_invariant.ensures.universe g layered)

pub returns-in_ok-support-in-None-clause-origins : goal.returns-in_ok-support-in-None-clause-origins
returns-in_ok-support-in-None-clause-origins c =
    let u = c.args.u.now in
    let g = c.args.targets.now in
    let layered = all_layered u c.args.layers.now c.requires.layers g c.requires.within (sym c.lacking.ensures ∙ c.in-None.is) in
    subst (λ s. (p : ℕ) → is_selected s p ≡ true → MatchOption (origin_at s p) (layer_of u p ≡ Some 0) (IsLeastBelow u p)) (sym c.in_ok-support-in-None.ensures) (origins u c.keeps_invariant.ensures.universe g layered)

pub returns-in_ok-support-in-None-clause-providers : goal.returns-in_ok-support-in-None-clause-providers
returns-in_ok-support-in-None-clause-providers c =
    let u = c.args.u.now in
    let g = c.args.targets.now in
    let layered = all_layered u c.args.layers.now c.requires.layers g c.requires.within (sym c.lacking.ensures ∙ c.in-None.is) in
    subst (λ s. (p r : ℕ) → is_selected s p ≡ true → requires u p r ≡ true → IsSomeAnd (provider_at s r) (IsFirstProvider u r)) (sym c.in_ok-support-in-None.ensures) (providers u c.keeps_invariant.ensures.universe g layered)

pub returns-in_ok-support-in-None-clause-over : goal.returns-in_ok-support-in-None-clause-over
returns-in_ok-support-in-None-clause-over c =
    let u = c.args.u.now in
    let g = c.args.targets.now in
    let layered = all_layered u c.args.layers.now c.requires.layers g c.requires.within (sym c.lacking.ensures ∙ c.in-None.is) in
    subst (IsSupport u) (sym c.in_ok-support-in-None.ensures) (over u c.keeps_invariant.ensures.universe g layered)
