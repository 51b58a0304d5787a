use Rattle.std.proofs.Common.{◌≡◌, ◌+◌, ◌-◌, ◌≤◌, ◌&&◌, ◌||◌, ◌==◌, ℕ, length, slice_index, take}
use Rattle.metis_ids.specs.Terms.{afters, has, occurrences}
use Rattle.metis_sort.specs.Terms.{offers}
use Rattle.metis_sort.proofs.order.release.Given as goal

abbrev pub invariant-loop-next : goal.invariant-loop-next
invariant-loop-next g l = record {
  within : l.k ≤ length (afters (g.G.Reach.graph l.g) l.node);
  last : l.ready.last ≡ l.initial.ready.last;
  waits : (n : ℕ) → slice_index l.waits n + occurrences n (take l.k (afters (g.G.Reach.graph l.g) l.node)) ≡ slice_index l.initial.waits n;
  ready : (n : ℕ) → offers l.ready.others.keys l.ready.last l.ready.with_last n ≡ (offers l.initial.ready.others.keys l.initial.ready.last l.initial.ready.with_last n || (has (take l.k (afters (g.G.Reach.graph l.g) l.node)) n && (slice_index l.waits n == 0)));
  cost : l.steps ≡ l.initial.steps + l.k;
}

abbrev pub decreases-loop-next : goal.decreases-loop-next
decreases-loop-next g l = length (afters (g.G.Reach.graph l.g) l.node) - l.k
