use Rattle.std.proofs.Common.{◌≡◌, drop, nat_lt, not, ◌&&◌}
use Rattle.std.specs.List.{find}
use Rattle.metis_universe.specs.Terms.{demand_of, is_met, required_of}
use Rattle.metis_config.specs.Terms.{demanded}
use Rattle.metis_config.proofs.config.Config.new_unmet.Given as goal

abbrev pub invariant-loop-place : goal.invariant-loop-place
invariant-loop-place l =
    find (λ r. nat_lt (demanded l.u l.self l.change.inst r) (demand_of l.u l.q r) && not (is_met l.u l.self l.change.inst r (demand_of l.u l.q r))) (drop l.place (required_of l.u l.q))
    ≡ find (λ r. nat_lt (demanded l.u l.self l.change.inst r) (demand_of l.u l.q r) && not (is_met l.u l.self l.change.inst r (demand_of l.u l.q r))) (required_of l.u l.q)
