use Rattle.std.proofs.Common.{◌≡◌, IsSome, refl, Some, ◌∙◌, ◌&&◌, ◌+◌, ap, cond, nat_eq, false, not, sym, subst, arith, rules}
use Rattle.std.specs.BTreeSet.{insert_key}
use Rattle.std.specs.List.{filter}
use Rattle.metis_universe.specs.Terms.{Config, binding_cmp, config_of, is_bound, is_tie, pair_of}
use Rattle.metis_universe.proofs.Edits.{remove_key-bindings}
use Rattle.metis_config.proofs.Indexed.{IsIndexed-tie, insert-undone}
use Rattle.metis_config.proofs.Providers.{providers-tied}
use Rattle.metis_config.proofs.config.Config.tie_to.Goals as goal

pub invariant_of-self-then-is_err : goal.invariant_of-self-then-is_err
invariant_of-self-then-is_err c =
    let clients : c.insert.new.self.keys ≡ c.self.inside.clients.keys = search rules in
    rw clients (record {
      by_provider = c.self.invariant.by_provider;
      tallied = λ w s f. let more = c.in_ok-enter.ensures.ok w s f in let less = c.leave.ensures w s f in let old = c.self.invariant.tallied w s f in omega (arith, more, less, old);
    })

pub invariant_of-self-then-is_err-2 : goal.invariant_of-self-then-is_err-2
invariant_of-self-then-is_err-2 c =
    let kept : c.insert-2.new.self.keys ≡ c.self.inside.bindings.keys = search rules in
    let free : is_bound (config_of c.self.inside.instances.entries c.self.inside.bindings.keys) c.args.r c.args.z c.args.y ≡ false = ap (λ (d : Config). is_bound d c.args.r c.args.z c.args.y) c.self.view_is ∙ c.requires.unbound in
    let added : c.insert.new.self.keys ≡ insert_key binding_cmp c.self.inside.clients.keys (c.args.y, c.args.z, c.args.r) = search rules in
    let clients = c.remove.ensures.keys ∙ remove_key-bindings c.args.y c.args.z c.args.r c.insert.new.self.keys c.insert.ensures.ordered ∙ ap (filter (λ b. not (is_tie c.args.y c.args.z c.args.r b))) added
    ∙ insert-undone c.args.y c.args.z c.args.r c.self.inside.clients.keys (c.self.invariant.by_provider.same c.args.r c.args.z c.args.y ∙ free) in
    rw (kept, clients) (record {
      by_provider = c.self.invariant.by_provider;
      tallied = λ w s f. let more = c.in_ok-enter.ensures.ok w s f in let less = c.leave-then-is_err-2.ensures w s f in let old = c.self.invariant.tallied w s f in omega (arith, more, less, old);
    })

pub invariant_of-self-else-is_err-2 : goal.invariant_of-self-else-is_err-2
invariant_of-self-else-is_err-2 c =
    let b = config_of c.self.inside.instances.entries c.self.inside.bindings.keys in
    let free : is_bound b c.args.r c.args.z c.args.y ≡ false = ap (λ (d : Config). is_bound d c.args.r c.args.z c.args.y) c.self.view_is ∙ c.requires.unbound in
    let at : pair_of b c.args.y ≡ Some c.args.pair = ap (λ (d : Config). pair_of d c.args.y) c.self.view_is ∙ c.requires.provider in
    let there = λ (z : _) (h : IsSome (pair_of c.args.self.now z)). subst (λ (d : Config). IsSome (pair_of d z)) (sym c.self.view_is) h in
    let bindings : c.insert-2.new.self.keys ≡ insert_key binding_cmp c.self.inside.bindings.keys (c.args.r, c.args.z, c.args.y) = search rules in
    let added : c.insert.new.self.keys ≡ insert_key binding_cmp c.self.inside.clients.keys (c.args.y, c.args.z, c.args.r) = search rules in
    rw (bindings, added) (record {
      by_provider = IsIndexed-tie b c.self.inside.clients.keys c.args.r c.args.z c.args.y c.requires.apart (there c.args.z c.requires.requirer) (subst IsSome (sym at) refl) c.self.invariant.by_provider;
      tallied = λ w s f. c.in_ok-enter.ensures.ok w s f ∙ ap (λ n. n + cond (nat_eq w c.args.z && nat_eq s c.args.r && f c.args.pair) 1 0) (c.self.invariant.tallied w s f)
          ∙ sym (providers-tied b c.args.r c.args.z c.args.y c.args.pair free at w s f);
    })
