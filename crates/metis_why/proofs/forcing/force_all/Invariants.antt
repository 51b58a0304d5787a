use Rattle.std.proofs.Common.{ℕ, Bool}
use Rattle.std.specs.List.{All}
use Rattle.metis_ids.specs.declared.goals.Goal.{Goal}
use Rattle.metis_universe.specs.Terms.{Universe}
use Rattle.metis_why.specs.Terms.{AreMarked, IsMissed}
use Rattle.metis_why.proofs.forcing.force_all.Given as goal

abbrev pub invariant-loop-pair : goal.invariant-loop-pair
invariant-loop-pair l = (u : Universe) (g : Goal) (x : ℕ → Bool) → All (IsMissed u g x) l.pairs → AreMarked u g x l.initial.list.items l.initial.forced → AreMarked u g x l.list.items l.forced
