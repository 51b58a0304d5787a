use Rattle.std.proofs.Common.{◌≡◌, ◌<◌, ◌&&◌, Some, cond, nat_eq, ap, sym, subst, ◌∙◌, arith, rules}
use Rattle.metis_universe.specs.Terms.{config_of, is_bound, pair_of}
use Rattle.metis_config.proofs.Indexed.{IsIndexed-put}
use Rattle.metis_config.proofs.Providers.{bound-counted, providers-moved}
use Rattle.metis_config.proofs.Tallies.{split}
use Rattle.metis_config.proofs.config.Config.set_pair.Goals as goal

pub shift_all-requires : goal.shift_all-requires
shift_all-requires c = λ w r bound.
    let b = config_of c.self.inside.instances.entries c.self.inside.bindings.keys in
    let at : pair_of b c.args.z ≡ Some c.in-Ok-Some.from = search rules in
    subst (λ n. 0 < n) (sym (c.self.invariant.tallied w r (λ q. nat_eq q c.in-Ok-Some.from)))
    (bound-counted b c.self.invariant.by_provider.config r w c.args.z c.in-Ok-Some.from (sym (c.self.invariant.by_provider.same r w c.args.z) ∙ bound) at)

pub invariant_of-self : goal.invariant_of-self
invariant_of-self c =
    let b = config_of c.self.inside.instances.entries c.self.inside.bindings.keys in
    let p = c.in-Ok-Some.from in
    let at : pair_of b c.args.z ≡ Some p = search rules in
    rw c.in-Ok-Some.ensures.entries (record {
      by_provider = IsIndexed-put b c.self.inside.clients.keys c.args.z c.args.p c.self.invariant.by_provider;
      tallied = λ w r f.
          let same = c.self.invariant.by_provider.same r w c.args.z in
          let shifted = c.shift_all.ensures w r f in
          let old = c.self.invariant.tallied w r f in
          let moved = providers-moved b c.self.invariant.by_provider.config c.args.z p c.args.p at w r f in
          let less = ap (λ v. cond (v && f p) 1 0) same ∙ sym (split (is_bound b r w c.args.z) (f p)) in
          let more = ap (λ v. cond (v && f c.args.p) 1 0) same ∙ sym (split (is_bound b r w c.args.z) (f c.args.p)) in
          omega (arith, shifted, old, moved, less, more);
    })
