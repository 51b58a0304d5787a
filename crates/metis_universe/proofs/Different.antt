-- Numbers in order are different.
use Rattle.std.proofs.Common.{ℕ, List, [], ◌∷◌}
use Rattle.std.specs.List.Sorted.{IsStrictlyIncreasing, IsStrictlySortedBy}
use Rattle.std.specs.Ordering.{nat_cmp}
use Rattle.std.proofs.lemmas.Map.Keys.{sorted_from_strictly_increasing}
use Rattle.metis_ids.proofs.Lists.{none_above}
use Rattle.metis_universe.specs.Terms.{AreDifferent}

pub sorted_differ : (xs : List ℕ) → IsStrictlySortedBy nat_cmp xs → AreDifferent xs
unfolding IsStrictlySortedBy
sorted_differ [] sorted = tt
sorted_differ (x ∷ xs) sorted = (none_above x xs sorted.0, sorted_differ xs sorted.1)

pub rising_differ : (xs : List ℕ) → IsStrictlyIncreasing xs → AreDifferent xs
rising_differ xs up = sorted_differ xs (sorted_from_strictly_increasing xs up)
