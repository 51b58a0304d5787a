use Rattle.std.proofs.Common.{◌≡◌}
use Rattle.std.specs.List.{AllByRecursion, find}
use Rattle.metis_config.proofs.GivenUp.{is_in}
use Rattle.metis_config.proofs.Prefixes.{IsRest}
use Rattle.metis_config.proofs.Unmets.{lost_client}
use Rattle.metis_config.proofs.config.Config.first_lost.Given as goal

abbrev pub invariant-loop-client : goal.invariant-loop-client
invariant-loop-client l = record {
  left : find (lost_client l.u l.self l.change.inst l.change.to) l.client-iterator
      ≡ find (lost_client l.u l.self l.change.inst l.change.to) l.clients.keys;
  rest : IsRest (l.change.inst, 0, 0) l.client-iterator;
  there : AllByRecursion (is_in l.clients.keys) l.client-iterator;
}
