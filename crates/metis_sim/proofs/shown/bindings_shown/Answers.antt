use Rattle.std.proofs.Common.{◌<◌, sym, subst}
use Rattle.std.specs.List.{All}
use Rattle.std.proofs.lemmas.List.Elements.{All-from_recursion}
use Rattle.metis_universe.specs.Terms.{Binding, port_count}
use Rattle.metis_sim.proofs.ShownNumbers.{bindings_low}
use Rattle.metis_sim.proofs.shown.bindings_shown.Goals as goal

pub invariant_of-result : goal.invariant_of-result
invariant_of-result c =
    let u = c.args.universe.now in
    let low = All-from_recursion (λ (b : Binding). b.0 < port_count u) c.args.c.now.bindings (bindings_low u c.args.c.now c.requires) in
    record { known = subst (All (λ (b : Binding). b.0 < port_count u)) (sym c.in_ok-bindings.ensures) low }
