use Rattle.std.proofs.Common.{◌<◌, ◌++◌, take, sym, ap, ◌∙◌, subst, arith}
use Rattle.std.specs.List.{filter_map}
use Rattle.std.specs.Option.{option_to_list}
use Rattle.std.proofs.lemmas.List.Elements.{All-get_or}
use Rattle.metis_universe.specs.Terms.{port_count, provider_of}
use Rattle.metis_layers.proofs.Sets.{take_more}
use Rattle.metis_choice.proofs.Adding.{adds_both, filter_map_push}
use Rattle.metis_choice.proofs.Below.{provider_low}
use Rattle.metis_choice.specs.Terms.{Adds}
use Rattle.metis_choice.proofs.selection.add_providers.Goals as goal

pub add_need-requires : goal.add_need-requires
add_need-requires c x is =
    let u = c.args.u.now in
    let ports = c.requires_-port-items.result.now in
    let r = c.port-item.result in
    let low = subst (λ y. y < port_count u) (sym c.port-item.is) (All-get_or (λ y. y < port_count u) ports c.loop-port.port-index r c.loop-port-test.true c.requires_-port-items.ensures.within) in
    let below = provider_low u r x (sym (c.first_provider.ensures ∙ c.requires.layers.provider r low) ∙ is) in
    omega (arith, below, c.loop-port.invariant.size, c.requires.size)

pub loop-port-preserved : goal.loop-port-preserved
loop-port-preserved c =
    let u = c.args.u.now in
    let f = provider_of u in
    let ports = c.requires_-port-items.result.now in
    let i = c.loop-port.port-index in
    let r = c.port-item.result in
    let low = subst (λ y. y < port_count u) (sym c.port-item.is) (All-get_or (λ y. y < port_count u) ports i r c.loop-port-test.true c.requires_-port-items.ensures.within) in
    let need = c.first_provider.ensures ∙ c.requires.layers.provider r low in
    subst (λ ps. Adds ps c.args.work.now c.add_need.new.self)
    (ap (λ o. filter_map f (take i ports) ++ option_to_list o) need ∙ sym (filter_map_push f (take i ports) r) ∙ ap (filter_map f) (sym (take_more ports i r c.loop-port-test.true c.port-item.is)))
    (adds_both (filter_map f (take i ports)) (option_to_list c.first_provider.result) c.args.work.now c.loop-port.work c.add_need.new.self c.loop-port.invariant c.in_ok-add_need.ensures)
