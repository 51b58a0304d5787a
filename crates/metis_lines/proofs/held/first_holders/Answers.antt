use Rattle.std.proofs.Common.{◌∙◌, None, ap, cond, get_or, length}
use Rattle.std.proofs.lemmas.List.{length-replicate}
use Rattle.std.proofs.lemmas.List.FromFn.{fill_by_all}
use Rattle.metis_universe.specs.Terms.{has}
use Rattle.metis_lines.proofs.FirstHeld.{unheld}
use Rattle.metis_lines.proofs.held.first_holders.Goals as goal
use Rattle.metis_lines.specs.Terms.{first_holder}

pub returns : goal.returns
returns c =
    let providers = c.args.providers.now in
    let size = c.copy_holders.ensures.size ∙ ap length c.in_ok-holders.ensures ∙ length-replicate c.args.pairs None in
    fill_by_all (first_holder c.args.lines.now providers) c.copy_holders.new.holders c.args.pairs None size
    (λ p low. c.copy_holders.ensures.copied p ∙ (λ i. cond (has providers p) (c.in_ok-found.ensures p i) ((ap (λ t. get_or t p None) c.in_ok-holders.ensures ∙ unheld c.args.pairs p) i)))
