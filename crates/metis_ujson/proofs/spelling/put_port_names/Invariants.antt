use Rattle.std.proofs.Common.{map, take}
use Rattle.serde_json.specs.Data.{string}
use Rattle.metis_universe.specs.Terms.{port_name_of}
use Rattle.metis_ujson.specs.Terms.{Adds, all_tokens}
use Rattle.metis_ujson.proofs.spelling.put_port_names.Given as goal

abbrev pub invariant-loop-port : goal.invariant-loop-port
invariant-loop-port l = Adds l.initial.out l.out (all_tokens (map (λ x. string (port_name_of l.u x)) (take l.port-index l.ports)))
