use Rattle.std.proofs.Common.{sym, ◌∙◌, subst}
use Rattle.metis_universe.specs.Terms.{Config}
use Rattle.metis_config.specs.Terms.{AreOver, Bindings}
use Rattle.metis_config.proofs.Tallies.{weight-shares}
use Rattle.metis_config.proofs.config.Config.set_bindings.Goals as goal

pub invariant_of-self : goal.invariant_of-self
invariant_of-self c =
    let over = subst (λ (b : Bindings). AreOver c.self.inside.instances.entries b) (sym c.kept.view_is) (subst (λ (d : Config). AreOver d.instances c.args.kept) (sym c.self.view_is) c.requires) in
    record {
      by_provider = over.by_provider;
      tallied = λ w r f. sym (weight-shares c.kept.inside.crowds.map w r f) ∙ over.tallied w r f;
    }
