use Rattle.std.proofs.Common.{◌≡◌}
use Rattle.metis_why.specs.Terms.{IsKept}
use Rattle.metis_why.proofs.minimizing.force_near.Given as goal

abbrev pub invariant-loop-pair : goal.invariant-loop-pair
invariant-loop-pair l = record {
  held : l.kept.known.held ≡ l.initial.kept.known.held;
  kept : IsKept l.target.u.now l.target.goal l.kept;
}
