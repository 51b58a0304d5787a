use Rattle.std.proofs.Common.{◌≡◌, ◌-◌, take}
use Rattle.std.specs.List.{count_by}
use Rattle.metis_config.specs.Terms.{demanded}
use Rattle.metis_universe.specs.Terms.{is_bound}
use Rattle.metis_reconfigure.proofs.targets.lack_among.Given as goal

abbrev pub invariant-loop-y : goal.invariant-loop-y
invariant-loop-y l = l.lack ≡ demanded l.u l.c l.z l.port - count_by (λ y. is_bound l.c l.port l.z y) (take l.y-index l.standing)
