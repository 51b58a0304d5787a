use Rattle.metis_choice.specs.Terms.{AreFirstBelow}
use Rattle.metis_choice.proofs.origins.all_origins.Given as goal

abbrev pub invariant-loop-number : goal.invariant-loop-number
invariant-loop-number l = AreFirstBelow l.u l.number l.origins
