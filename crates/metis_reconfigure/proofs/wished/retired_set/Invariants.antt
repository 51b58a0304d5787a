use Rattle.std.proofs.Common.{ℕ, ◌≡◌, take}
use Rattle.metis_universe.specs.Terms.{has}
use Rattle.metis_wishes.specs.Terms.{retired}
use Rattle.metis_reconfigure.proofs.wished.retired_set.Given as goal

abbrev pub invariant-loop-wish : goal.invariant-loop-wish
invariant-loop-wish l = (z : ℕ) → has l.set.keys z ≡ has (retired (take l.wish-index l.wishes)) z
