use Rattle.std.proofs.Common.{◌≡◌, drop, not}
use Rattle.std.specs.List.{find}
use Rattle.metis_universe.specs.Terms.{demand_of, is_met, required_of}
use Rattle.metis_config.specs.Terms.{unmet_port}
use Rattle.metis_config.proofs.config.Config.unmet_of.Given as goal

abbrev pub invariant-loop-place : goal.invariant-loop-place
invariant-loop-place l =
    find (λ r. not (is_met l.u l.self l.z r (demand_of l.u l.p r))) (drop l.place (required_of l.u l.p))
    ≡ unmet_port l.u l.self l.z l.p
