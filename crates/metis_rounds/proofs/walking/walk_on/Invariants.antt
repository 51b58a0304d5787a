use Rattle.std.proofs.Common.{◌<◌, ◌-◌, length}
use Rattle.metis_lines.specs.Terms.{events, plan_of}
use Rattle.metis_rounds.specs.Terms.{IsWalk}
use Rattle.metis_rounds.proofs.walking.walk_on.Given as goal

abbrev pub invariant-loop-walk : goal.invariant-loop-walk
invariant-loop-walk l = record {
  walk : IsWalk (plan_of l.over.universe l.over.support l.over.lines) l.walk;
  some : 0 < length l.walk;
}

abbrev pub decreases-loop-walk : goal.decreases-loop-walk
decreases-loop-walk l = length (events (plan_of l.over.universe l.over.support l.over.lines)) - length l.walk
