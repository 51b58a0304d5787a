use Rattle.std.proofs.Common.{◌≡◌, drop}
use Rattle.metis_universe.specs.Terms.{first_from, next_fault}
use Rattle.metis_universe.proofs.check.fault_of_nexts.Given as goal

abbrev pub invariant-loop-s : goal.invariant-loop-s
invariant-loop-s l = first_from l.s (next_fault l.row l.t) (drop l.s l.row.states) ≡ first_from 0 (next_fault l.row l.t) l.row.states
