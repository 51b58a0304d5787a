use Rattle.std.proofs.Common.{◌≡◌}
use Rattle.metis_lines.specs.Terms.{loose}
use Rattle.metis_planner.specs.Terms.{IsUnderWay}
use Rattle.metis_planner.proofs.planner.plan_by_rounds.Given as goal

abbrev pub invariant-loop-dups : goal.invariant-loop-dups
invariant-loop-dups l = record {
  universe : l.rounds.universe ≡ l.u;
  support : l.rounds.support ≡ l.s;
  under_way : IsUnderWay l.u l.targets l.rounds.lines l.dups.items;
}

-- each round more has a line less that goes on from a provider pair
abbrev pub decreases-loop-dups : goal.decreases-loop-dups
decreases-loop-dups l = loose l.rounds.lines
