use Rattle.metis_layers.proofs.Sets.{gathered}
use Rattle.metis_reconfigure.proofs.targets.add_ports.Goals as goal

pub loop-port-preserved : goal.loop-port-preserved
loop-port-preserved c = gathered c.args.required.now c.loop-port.ports.keys c.insert.new.self.keys c.args.ports.now.keys c.loop-port.port-index c.port-item.result c.loop-port-test.true c.port-item.is c.in_ok-insert.ensures.keys c.loop-port.invariant
