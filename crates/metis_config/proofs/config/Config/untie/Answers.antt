use Rattle.std.proofs.Common.{◌≡◌, ◌<◌, Some, true, nat_eq, ap, sym, subst, ◌∙◌, arith, rules}
use Rattle.metis_universe.specs.Terms.{Config, config_of, is_bound, pair_of}
use Rattle.metis_universe.proofs.Edits.{remove_key-bindings}
use Rattle.metis_config.proofs.Indexed.{IsIndexed-untie}
use Rattle.metis_config.proofs.Providers.{bound-counted, providers-untied}
use Rattle.metis_config.proofs.config.Config.untie.Goals as goal

pub leave-requires : goal.leave-requires
leave-requires c =
    let b = config_of c.self.inside.instances.entries c.self.inside.bindings.keys in
    let bound : is_bound b c.args.r c.args.z c.args.y ≡ true = ap (λ (d : Config). is_bound d c.args.r c.args.z c.args.y) c.self.view_is ∙ c.requires in
    let at : pair_of b c.args.y ≡ Some c.unwrap-pair.result = search rules in
    subst (λ n. 0 < n) (sym (c.self.invariant.tallied c.args.z c.args.r (λ q. nat_eq q c.unwrap-pair.result)))
    (bound-counted b c.self.invariant.by_provider.config c.args.r c.args.z c.args.y c.unwrap-pair.result bound at)

pub invariant_of-self : goal.invariant_of-self
invariant_of-self c =
    let b = config_of c.self.inside.instances.entries c.self.inside.bindings.keys in
    let bound : is_bound b c.args.r c.args.z c.args.y ≡ true = ap (λ (d : Config). is_bound d c.args.r c.args.z c.args.y) c.self.view_is ∙ c.requires in
    let at : pair_of b c.args.y ≡ Some c.unwrap-pair.result = search rules in
    let keys = c.remove.ensures.keys ∙ remove_key-bindings c.args.r c.args.z c.args.y c.self.inside.bindings.keys c.self.invariant.by_provider.config.in_order in
    let clients = c.remove-2.ensures.keys ∙ remove_key-bindings c.args.y c.args.z c.args.r c.self.inside.clients.keys c.self.invariant.by_provider.in_order in
    rw (keys, clients) (record {
      by_provider = IsIndexed-untie b c.self.inside.clients.keys c.args.r c.args.z c.args.y c.self.invariant.by_provider;
      tallied = λ w s f.
          let left = c.leave.ensures w s f in
          let old = c.self.invariant.tallied w s f in
          let untied = providers-untied b c.self.invariant.by_provider.config c.args.r c.args.z c.args.y c.unwrap-pair.result bound at w s f in
          omega (arith, left, old, untied);
    })

pub returns : goal.returns
returns c =
    let keys = c.remove.ensures.keys ∙ remove_key-bindings c.args.r c.args.z c.args.y c.self.inside.bindings.keys c.self.invariant.by_provider.config.in_order in
    rw (← c.self.view_is) (ap (config_of c.self.inside.instances.entries) keys)
