use Rattle.std.proofs.Common.{◌≡◌, ◌++◌, take}
use Rattle.std.specs.List.{flat_map}
use Rattle.metis_universe.specs.Terms.{required_of}
use Rattle.metis_rounds.specs.Terms.{port_uses}
use Rattle.metis_rounds.proofs.uses.add_uses.Given as goal

-- the ports before this one are done
abbrev pub invariant-loop-port : goal.invariant-loop-port
invariant-loop-port l = l.uses.items ≡ l.initial.uses.items ++ flat_map (port_uses l.over.universe l.over.support l.pair) (take l.port-index (required_of l.over.universe l.pair))
