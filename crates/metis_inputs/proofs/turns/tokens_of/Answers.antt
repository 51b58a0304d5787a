use Rattle.std.proofs.Common.{◌≡◌, ◌∙◌, ℕ, List, ap, length, nat_eq, not, rules, tests}
use Rattle.std.proofs.lemmas.Iterator.Consumers.{YieldsList-from_filter, map_from_collect}
use Rattle.std.proofs.lemmas.Iterator.Splits.{YieldsList-from_slice_split}
use Rattle.metis_universe.specs.Terms.{is_empty}
use Rattle.metis_inputs.specs.Terms.{is_blank}
use Rattle.metis_inputs.proofs.turns.tokens_of.Goals as goal
use Rattle.metis_tokens.proofs.ScriptEnds.{counted_empty}

pub returns-clause-tokens : goal.returns-clause-tokens
returns-clause-tokens c =
    map_from_collect _ c.collect.ensures.ran
    (YieldsList-from_filter _ (λ (token : List ℕ). not (is_empty token)) (YieldsList-from_slice_split _ is_blank c.args.bytes.now (cc) (cc) (cc) (λ x b q k. search (rules, tests))) c.filter.ensures.closure
    (λ x b q k. let said : (q ≡ record {}) × (b ≡ not (nat_eq (length x.now) 0)) = search (rules, tests) in (said.0, said.1 ∙ ap not (counted_empty x.now))))
