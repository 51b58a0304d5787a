use Rattle.metis_waits.proofs.Begun.{IsJudgedTo}
use Rattle.metis_waits.proofs.judged.Judged.go_on_steadfast.Given as goal

abbrev pub invariant-loop-index : goal.invariant-loop-index
invariant-loop-index l = IsJudgedTo l.u l.actions l.index l.judged
