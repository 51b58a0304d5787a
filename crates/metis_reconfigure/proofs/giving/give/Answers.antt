use Rattle.std.proofs.Common.{◌<◌, ◌++◌, ◌∷◌, [], length, arith, ap, ◌∙◌}
use Rattle.metis_universe.proofs.Different.{rising_differ}
use Rattle.metis_completion.specs.Terms.{given_in}
use Rattle.metis_ids.proofs.Lists.{has_at}
use Rattle.metis_layers.proofs.Ways.{all_has}
use Rattle.metis_universe.specs.Terms.{has, port_count}
use Rattle.metis_reconfigure.proofs.GivenRows.{given_to_one, length_set}
use Rattle.metis_reconfigure.proofs.giving.give.Goals as goal

pub loop-port-preserved : goal.loop-port-preserved
loop-port-preserved c =
    let u = c.args.u.now in
    let ports = c.provided-port-items.result.now in
    let i = c.loop-port.port-index in
    let r = c.port-item.result in
    let rows = c.loop-port.given in
    let low = all_has (λ s. s < port_count u) ports r c.provided-port-items.ensures.within (ap (has ports) c.port-item.is ∙ has_at ports i r c.loop-port-test.true) in
    let inside : r < length rows = omega (arith, low, c.loop-port.invariant.ports, c.requires.ports) in
    record {
      rows = given_to_one c.args.z c.args.given.now ports i r rows c.add.new.self (rising_differ ports c.provided-port-items.ensures.ascending) c.loop-port-test.true c.port-item.is inside c.in_ok-add.ensures.ok c.loop-port.invariant.rows;
      ports = ap length c.in_ok-add.ensures.ok ∙ (length_set rows r (given_in rows r ++ c.args.z ∷ []) ∙ c.loop-port.invariant.ports);
    }
