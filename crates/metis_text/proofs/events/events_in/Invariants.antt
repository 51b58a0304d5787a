use Rattle.std.proofs.Common.{◌≡◌, [], drop}
use Rattle.std.specs.Prelude.{Ok, map}
use Rattle.metis_tokens.specs.Terms.{all_behind, made}
use Rattle.metis_text.specs.Terms.{event_in}
use Rattle.metis_text.proofs.events.events_in.Given as goal

abbrev pub invariant-loop-token : goal.invariant-loop-token
invariant-loop-token l = all_behind event_in (made (λ v. v.items) l.read) (map (λ t. t.now) (drop l.token-index l.tokens)) ≡ all_behind event_in (Ok []) (map (λ t. t.now) l.tokens)
