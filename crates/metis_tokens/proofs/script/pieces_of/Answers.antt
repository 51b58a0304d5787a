use Rattle.std.proofs.Common.{rules, tests}
use Rattle.std.proofs.lemmas.Iterator.Consumers.{map_from_collect}
use Rattle.std.proofs.lemmas.Iterator.Splits.{YieldsList-from_slice_split}
use Rattle.metis_tokens.specs.Terms.{is_feed}
use Rattle.metis_tokens.proofs.script.pieces_of.Goals as goal

pub returns-clause-pieces : goal.returns-clause-pieces
returns-clause-pieces c = map_from_collect _ c.collect.ensures.ran (YieldsList-from_slice_split _ is_feed c.args.bytes.now (cc) (cc) (cc) (λ x b q k. search (rules, tests)))
