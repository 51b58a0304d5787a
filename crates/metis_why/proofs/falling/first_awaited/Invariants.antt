use Rattle.metis_why.specs.Terms.{AreReached}
use Rattle.metis_why.proofs.falling.first_awaited.Given as goal

abbrev pub invariant-loop-place : goal.invariant-loop-place
invariant-loop-place l = AreReached l.required l.given l.place
