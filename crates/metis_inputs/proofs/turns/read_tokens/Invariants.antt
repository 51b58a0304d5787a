use Rattle.std.proofs.Common.{◌≡◌, map, take}
use Rattle.std.specs.List.{filter_map}
use Rattle.metis_inputs.proofs.TurnsRead.{AreTurns}
use Rattle.metis_inputs.specs.Terms.{turn_of}
use Rattle.metis_inputs.proofs.turns.read_tokens.Given as goal

abbrev pub invariant-loop-k : goal.invariant-loop-k
invariant-loop-k l = record {
  turns : l.turns.items ≡ filter_map turn_of (map (λ token. token.now) (take l.k l.tokens));
  fit : AreTurns (λ token. token.now) l.tokens l.k;
}
