use Rattle.std.proofs.Common.{◌≡◌, ◌≤◌, ◌+◌, ◌-◌, [], drop, length}
use Rattle.std.specs.List.{All}
use Rattle.metis_universe.specs.Terms.{texts}
use Rattle.metis_words.specs.Terms.{numbers_after}
use Rattle.metis_words.proofs.grammar.read_numbers.Given as goal

-- what is left, behind the numbers so far
abbrev pub invariant-loop-k : goal.invariant-loop-k
invariant-loop-k l = record {
  rest : numbers_after l.numbers.items (l.first + l.k) (l.count - l.k) (drop l.k (texts l.words)) ≡ numbers_after [] l.first l.count (texts l.words);
  all : length l.numbers.items ≡ l.k;
  small : All (λ n. n ≤ 1000000) l.numbers.items;
}
