use Rattle.metis_rounds.proofs.Beginning.{IsBeginning}
use Rattle.metis_rounds.proofs.going.Going.begin.Given as goal

-- the lines before this one are there
abbrev pub invariant-loop-number : goal.invariant-loop-number
invariant-loop-number l = IsBeginning l.over.lines l.number l.self
