use Rattle.metis_waits.proofs.Begun.{IsPassedTo}
use Rattle.metis_waits.proofs.pass.first_loose.Given as goal

abbrev pub invariant-loop-index : goal.invariant-loop-index
invariant-loop-index l = IsPassedTo l.u l.actions l.index l.summary
