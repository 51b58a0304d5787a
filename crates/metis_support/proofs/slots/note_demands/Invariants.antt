use Rattle.std.proofs.Common.{◌≡◌, ℕ, fold, get_or, length, map, max, take}
use Rattle.metis_universe.specs.Terms.{required_of}
use Rattle.metis_support.proofs.SlotCounts.{demanded_from}
use Rattle.metis_support.proofs.slots.note_demands.Given as goal

-- raised to what the pair demands of the ports so far
abbrev pub invariant-loop-port : goal.invariant-loop-port
invariant-loop-port l = record {
  size : length l.counts ≡ length l.initial.counts;
  counts : (p : ℕ) → get_or l.counts p 0 ≡ fold max (get_or l.initial.counts p 0) (map (demanded_from l.u l.s p l.pair) (take l.port-index (required_of l.u l.pair)));
}
