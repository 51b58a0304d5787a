use Rattle.std.proofs.Common.{◌∙◌}
use Rattle.metis_config.proofs.Leasts.{unmet-changed}
use Rattle.metis_config.proofs.config.Config.unmet_from.Goals as goal

pub returns : goal.returns
returns c =
    c.earlier_of.ensures
    ∙ unmet-changed c.args.u.now c.args.self.now c.keeps_invariant.ensures.universe c.keeps_invariant-2.ensures c.requires.correct c.args.z c.args.to
    c.unmet_own-own.result c.first_lost-lost.result c.unmet_own-own.ensures c.first_lost-lost.ensures
