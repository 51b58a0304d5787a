use Rattle.std.proofs.Common.{◌≡◌, ◌++◌, take}
use Rattle.std.specs.Prelude.{decimal, map, string_bytes}
use Rattle.metis_tokens.specs.Terms.{added}
use Rattle.metis_tokens.proofs.numbers.push_numbers.Given as goal

abbrev pub invariant-loop-number : goal.invariant-loop-number
invariant-loop-number l = record {
  text : string_bytes l.line ≡ string_bytes l.initial.line ++ added (map decimal (take l.number-index l.numbers));
}
