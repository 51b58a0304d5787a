use Rattle.std.proofs.Common.{[], map, flat_map, ap, ◌∙◌, subst}
use Rattle.metis_universe.specs.Terms.{IsNumbered, number_within, ports_of_type}
use Rattle.metis_universe.proofs.sights.ports_of.Goals as goal

pub returns-clause-numbers : goal.returns-clause-numbers
returns-clause-numbers c =
    let names = flat_map ports_of_type c.args.rows.now in
    let new = c.add_ports_of_types.new.seen in
    let after = c.add_ports_of_types.new.numbers.items in
    let numbered : IsNumbered [] new [] after names =
    subst (λ numbers. IsNumbered [] new numbers after names) c.new-numbers.ensures.items (subst (λ seen. IsNumbered seen new c.new-numbers.result.items after names) c.in_ok-ports.ensures c.in_ok-add_ports_of_types.ensures) in
    numbered.numbers [] ∙ ap (λ ports. map (number_within ports) names) numbered.seen
