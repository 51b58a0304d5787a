use Rattle.std.proofs.Common.{◌≡◌, ◌++◌, ℕ, fold, get_or, length, max}
use Rattle.std.specs.List.{flat_map}
use Rattle.metis_universe.specs.Terms.{demands_on}
use Rattle.metis_support.specs.Terms.{provider_at}
use Rattle.metis_support.proofs.slots.slot_counts.Given as goal

-- raised to what the pairs so far demand
abbrev pub invariant-loop-pair : goal.invariant-loop-pair
invariant-loop-pair l = record {
  left : l.yielded ++ l.pair-iterator ≡ l.s.selected.members;
  size : length l.counts ≡ l.s.selected.size;
  counts : (p : ℕ) → get_or l.counts p 0 ≡ fold max 0 (flat_map (demands_on (provider_at l.s) l.u p) l.yielded);
}
