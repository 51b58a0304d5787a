use Rattle.std.proofs.Common.{◌≡◌, ◌≤◌, not, take, length, None}
use Rattle.std.specs.List.{filter_map, find, range_with_len}
use Rattle.metis_universe.specs.Terms.{texts}
use Rattle.metis_words.specs.Terms.{target_fits, target_of}
use Rattle.metis_words.proofs.grammar.read_targets.Given as goal

abbrev pub invariant-loop-k : goal.invariant-loop-k
invariant-loop-k l = record {
  targets : l.targets.items ≡ filter_map target_of (take l.k (texts l.words));
  all : length l.targets.items ≡ l.k;
  few : l.k ≤ l.limit;
  fit : find (λ j. not (target_fits l.limit (texts l.words) j)) (range_with_len 0 l.k) ≡ None;
}
