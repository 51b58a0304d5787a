use Rattle.std.proofs.Common.{refl, sym, ◌∙◌, subst}
use Rattle.std.specs.Prelude.{IsNone}
use Rattle.metis_ids.proofs.Options.{none_from_IsNone}
use Rattle.metis_universe.specs.Terms.{IsConfig}
use Rattle.metis_config.specs.Terms.{IsLeast, is_unmet}
use Rattle.metis_config.proofs.Leasts.{correct-unmet, unmet-correct, unmet_least}
use Rattle.metis_config.proofs.config.Config.unmet.Goals as goal

pub returns-clause-least : goal.returns-clause-least
returns-clause-least c =
    let h = subst IsConfig c.self.view_is c.self.invariant.by_provider.config in
    subst (IsLeast (is_unmet c.args.u.now c.args.self.now)) (sym c.first_unmet.ensures)
    (unmet_least c.args.u.now c.args.self.now c.keeps_invariant.ensures.universe h)

pub returns-clause-correct : goal.returns-clause-correct
returns-clause-correct c =
    let h = subst IsConfig c.self.view_is c.self.invariant.by_provider.config in
    let k = c.keeps_invariant.ensures.universe in
    let is = c.first_unmet.ensures in (
      λ none. correct-unmet c.args.u.now c.args.self.now k h (sym is ∙ none_from_IsNone _ none),
      λ correct. subst IsNone (sym (is ∙ unmet-correct c.args.u.now c.args.self.now k h correct)) refl,
    )
