use Rattle.std.proofs.Common.{◌≡◌, ℕ, ◌+◌, ◌<◌, length, get_or}
use Rattle.metis_sort.proofs.filling.starts_of.Given as goal

abbrev pub invariant-loop-count : goal.invariant-loop-count
invariant-loop-count l = record {
  size : length l.starts.items ≡ l.count-index + 1;
  first : get_or l.starts.items 0 0 ≡ 0;
  last : get_or l.starts.items l.count-index 0 ≡ l.start;
  each : (x : ℕ) → x < l.count-index → get_or l.starts.items (x + 1) 0 ≡ get_or l.starts.items x 0 + get_or l.counts x 0;
}
