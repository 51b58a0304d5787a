-- Ascending lists of numbers.
use Rattle.std.proofs.Common.{◌≡◌, ℕ, zero, suc, ◌+◌, ◌<◌, arith, nat_cmp}
use Rattle.std.specs.List.{AllByRecursion, range_with_len}
use Rattle.std.specs.List.Sorted.{IsStrictlySortedBy}
use Rattle.std.specs.declared.cmp.Ordering.TheVariants.{Less}
use Rattle.metis_ids.proofs.Tests.{cmp_less}

range_above : (b a n : ℕ) → b < a → AllByRecursion (λ y. nat_cmp b y ≡ Less) (range_with_len a n)
range_above b a zero l = tt
range_above b a (suc n) l = (cmp_less b a l, range_above b (a + 1) n (omega arith))

pub range_sorted : (a n : ℕ) → IsStrictlySortedBy nat_cmp (range_with_len a n)
unfolding IsStrictlySortedBy
range_sorted a zero = tt
range_sorted a (suc n) = (range_above a (a + 1) n (omega arith), range_sorted (a + 1) n)
