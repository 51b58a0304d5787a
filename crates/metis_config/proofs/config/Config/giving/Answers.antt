use Rattle.std.proofs.Common.{ap, ◌∙◌}
use Rattle.metis_universe.specs.Terms.{Config, provides}
use Rattle.metis_config.specs.Terms.{providers_in}
use Rattle.metis_config.proofs.config.Config.giving.Goals as goal

pub returns : goal.returns
returns c = c.giving.ensures ∙ c.self.invariant.tallied c.args.w c.args.r (λ q. provides c.args.u.now q c.args.r)
    ∙ ap (λ (d : Config). providers_in d c.args.w c.args.r (λ q. provides c.args.u.now q c.args.r)) c.self.view_is
