use Rattle.std.proofs.Common.{true, false, sym, ◌∙◌}
use Rattle.metis_config.proofs.Leasts.{unmet-untied}
use Rattle.metis_config.proofs.config.Config.unmet_untied.Goals as goal

pub returns-then-loses_tie : goal.returns-then-loses_tie
returns-then-loses_tie c = unmet-untied c.args.u.now c.args.self.now c.keeps_invariant.ensures.universe c.keeps_invariant-2.ensures c.requires.correct c.args.r c.args.z c.args.y true
    (sym c.if-loses_tie.true ∙ c.loses_tie.ensures)

pub returns-else-loses_tie : goal.returns-else-loses_tie
returns-else-loses_tie c = unmet-untied c.args.u.now c.args.self.now c.keeps_invariant.ensures.universe c.keeps_invariant-2.ensures c.requires.correct c.args.r c.args.z c.args.y false
    (sym c.if-loses_tie.false ∙ c.loses_tie.ensures)
