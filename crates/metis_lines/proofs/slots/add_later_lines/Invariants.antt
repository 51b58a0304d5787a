use Rattle.std.proofs.Common.{◌≡◌, ◌++◌, ◌-◌, get_or, length, map, take}
use Rattle.metis_support.specs.Terms.{path_to, provider_pairs}
use Rattle.metis_layers.proofs.Repeated.{blocks}
use Rattle.metis_lines.specs.Terms.{AreSeconds}
use Rattle.metis_lines.proofs.slots.add_later_lines.Given as goal

-- the lines of the provider pairs so far
abbrev pub invariant-loop-pair : goal.invariant-loop-pair
invariant-loop-pair l = record {
  pairs : l.pairs.items ≡ blocks (λ p. get_or l.counts p 0 - 1) (take l.pair-index (provider_pairs l.s));
  lines : l.lines.items ≡ l.initial.lines.items ++ map (path_to l.s) l.pairs.items;
  size : length l.seconds ≡ l.s.selected.size;
  seconds : AreSeconds (length l.initial.lines.items) l.pairs.items l.seconds (take l.pair-index (provider_pairs l.s));
}
