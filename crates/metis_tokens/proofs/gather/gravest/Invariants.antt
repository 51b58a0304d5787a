use Rattle.std.proofs.Common.{◌≡◌, drop}
use Rattle.std.specs.Prelude.{Err, map}
use Rattle.metis_tokens.specs.Terms.{all_behind, number_in}
use Rattle.metis_tokens.proofs.gather.gravest.Given as goal

abbrev pub invariant-loop-token : goal.invariant-loop-token
invariant-loop-token l = all_behind number_in (Err l.worst) (map (λ t. t.now) (drop l.token-index l.tokens)) ≡ all_behind number_in (Err l.fn.flaw) (map (λ t. t.now) l.tokens)
