use Rattle.std.proofs.Common.{sym, ◌∙◌, subst, nat_lt}
use Rattle.std.specs.List.{list_all}
use Rattle.std.proofs.lemmas.Bool.{both_ways}
use Rattle.metis_universe.specs.Terms.{Binding, IsConfig, pair_count, port_count}
use Rattle.metis_config.proofs.Firsts.{below_pairs, below_ports, pairs_below, ports_below}
use Rattle.metis_config.proofs.config.Config.is_over.Goals as goal

pub returns-then-are_pairs_below : goal.returns-then-are_pairs_below
returns-then-are_pairs_below c =
    let d = c.args.self.now in
    let h = subst IsConfig c.self.view_is c.self.invariant.by_provider.config in
    let pairs = sym (c.are_pairs_below.ensures ∙ (λ i. list_all (λ e. nat_lt e.1 (c.pairs.ensures.count i)) (c.self.view_is i).instances)) ∙ c.if-are_pairs_below.true in
    let ports = c.are_ports_below.ensures ∙ (λ i. list_all (λ (b : Binding). nat_lt b.0 (c.ports.ensures i)) (c.self.view_is i).bindings) in (
      λ t. record { pairs = pairs_below (pair_count c.args.u.now) d.instances pairs; ports = ports_below (port_count c.args.u.now) d.bindings (sym ports ∙ t) },
      λ over. ports ∙ below_ports (port_count c.args.u.now) d.bindings over.ports,
    )

pub returns-else-are_pairs_below : goal.returns-else-are_pairs_below
returns-else-are_pairs_below c =
    let d = c.args.self.now in
    let h = subst IsConfig c.self.view_is c.self.invariant.by_provider.config in
    let pairs = c.are_pairs_below.ensures ∙ (λ i. list_all (λ e. nat_lt e.1 (c.pairs.ensures.count i)) (c.self.view_is i).instances) in (
      λ t. absurd (both_ways _ c.if-are_pairs_below.false t),
      λ over. pairs ∙ below_pairs (pair_count c.args.u.now) d h over.pairs,
    )
