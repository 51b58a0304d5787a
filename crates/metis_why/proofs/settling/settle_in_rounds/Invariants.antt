use Rattle.metis_why.specs.Terms.{IsShrunk, IsWithin, held}
use Rattle.metis_refusal.specs.Terms.{flag}
use Rattle.metis_why.proofs.settling.settle_in_rounds.Given as goal

abbrev pub invariant-loop : goal.invariant-loop
invariant-loop l = record {
  within : IsWithin l.u (flag l.held);
  shrunk : IsShrunk l.u (flag l.initial.held) (flag l.held);
}

abbrev pub decreases-loop : goal.decreases-loop
decreases-loop l = held l.held
