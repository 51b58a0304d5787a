use Rattle.std.proofs.Common.{◌≡◌, ◌++◌, take}
use Rattle.std.specs.List.{filter}
use Rattle.metis_completion.specs.Terms.{given_in}
use Rattle.metis_universe.specs.Terms.{provides}
use Rattle.metis_reconfigure.proofs.Rebinds.{chosen, is_other}
use Rattle.metis_reconfigure.proofs.rebinding.candidates.Given as goal

abbrev pub invariant-loop-y : goal.invariant-loop-y
invariant-loop-y l = l.others.items ≡ filter (is_other l.c l.z l.port) (take l.y-index l.y-items)

abbrev pub invariant-loop-fresh : goal.invariant-loop-fresh
invariant-loop-fresh l = l.others.items ≡ filter (is_other l.c l.z l.port) (given_in l.givers.given.now l.port) ++ chosen (λ p. provides l.u p l.port) (is_other l.c l.z l.port) (take l.fresh-index l.givers.fresh.items)
