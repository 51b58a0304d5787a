-- Goals of a universe.
--     IsGoalOf-prop u g      there is at most one proof that the goal is the universe's
use Rattle.std.specs.Coded.{le_prop}
use Rattle.metis_ids.specs.declared.goals.Goal.{Goal}
use Rattle.metis_ids.specs.declared.goals.Goal.TheVariants.{Pair, Port}
use Rattle.metis_universe.specs.Terms.{IsGoalOf, Universe}

pub IsGoalOf-prop : (u : Universe) (g : Goal) → IsProp (IsGoalOf u g)
IsGoalOf-prop u (Pair p) = le_prop
IsGoalOf-prop u (Port r) = le_prop
