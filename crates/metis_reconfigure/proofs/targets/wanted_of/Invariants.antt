use Rattle.std.proofs.Common.{◌≡◌, take}
use Rattle.metis_reconfigure.specs.Terms.{wanted_by}
use Rattle.metis_reconfigure.proofs.targets.wanted_of.Given as goal

abbrev pub invariant-loop-z : goal.invariant-loop-z
invariant-loop-z l = l.most ≡ wanted_by l.u l.c l.standing (take l.z-index l.rebound) l.port
