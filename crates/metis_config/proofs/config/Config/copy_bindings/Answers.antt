use Rattle.std.proofs.Common.{◌≡◌, ◌∙◌, subst}
use Rattle.std.proofs.lemmas.List.Elements.{same_from_all_zip}
use Rattle.metis_universe.specs.Terms.{Config}
use Rattle.metis_config.specs.Terms.{AreOver, shares_in}
use Rattle.metis_config.proofs.Tallies.{weight-shares}
use Rattle.metis_config.proofs.config.Config.copy_bindings.Goals as goal

pub returns-clause-over : goal.returns-clause-over
returns-clause-over c =
    let ties : c.in_ok-clone.field-0.keys ≡ c.self.inside.bindings.keys = same_from_all_zip _ c.self.inside.bindings.keys c.in_ok-clone.field-0.keys c.in_ok-clone.ensures.cases (λ x y h. λ i. (h.0 i, h.1 i, h.2 i)) in
    let clients : c.in_ok-clone-2.field-0.keys ≡ c.self.inside.clients.keys = same_from_all_zip _ c.self.inside.clients.keys c.in_ok-clone-2.field-0.keys c.in_ok-clone-2.ensures.cases (λ x y h. λ i. (h.0 i, h.1 i, h.2 i)) in
    let crowds = c.in_ok-copy.ensures in
    subst (λ (d : Config). AreOver d.instances (record { ties = c.in_ok-clone.field-0.keys; clients = c.in_ok-clone-2.field-0.keys; crowds = shares_in c.in_ok-copy.field-0.map.entries })) c.self.view_is
    (rw (ties, clients) (record {
      by_provider = c.self.invariant.by_provider;
      tallied = λ w r f. weight-shares c.in_ok-copy.field-0.map w r f ∙ crowds w r f ∙ c.self.invariant.tallied w r f;
    }))
