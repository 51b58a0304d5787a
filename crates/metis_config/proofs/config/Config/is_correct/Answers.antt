use Rattle.std.proofs.Common.{not, ap, sym, ◌∙◌}
use Rattle.std.specs.Prelude.{is_some}
use Rattle.std.proofs.lemmas.Bool.{not-false}
use Rattle.metis_ids.proofs.Options.{none_from_is_some}
use Rattle.metis_config.proofs.Leasts.{correct-unmet, unmet-correct}
use Rattle.metis_config.proofs.config.Config.is_correct.Goals as goal

pub returns : goal.returns
returns c =
    let h = c.keeps_invariant.ensures in
    let u = c.args.u.now in
    let k = c.keeps_invariant-2.ensures.universe in (
      λ t. correct-unmet u c.args.self.now k h (sym c.unmet.ensures.first ∙ none_from_is_some c.unmet.result (c.is_none.ensures ∙ ap not t)),
      λ correct. not-false _ (sym c.is_none.ensures ∙ ap is_some (c.unmet.ensures.first ∙ unmet-correct u c.args.self.now k h correct)),
    )
