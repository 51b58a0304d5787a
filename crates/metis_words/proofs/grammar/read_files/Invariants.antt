use Rattle.std.proofs.Common.{◌≡◌, ◌≤◌, not, take, length, None}
use Rattle.std.specs.List.{find, range_with_len}
use Rattle.metis_universe.specs.Terms.{texts}
use Rattle.metis_words.specs.Terms.{file_fits}
use Rattle.metis_words.proofs.grammar.read_files.Given as goal

abbrev pub invariant-loop-k : goal.invariant-loop-k
invariant-loop-k l = record {
  files : texts l.files.items ≡ take l.k (texts l.words);
  all : length l.files.items ≡ l.k;
  there : l.k ≤ length l.words;
  fit : find (λ j. not (file_fits (texts l.words) j)) (range_with_len 0 l.k) ≡ None;
}
