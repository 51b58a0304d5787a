use Rattle.std.proofs.Common.{◌<◌, ◌∙◌, ap, arith, get_or, length, None}
use Rattle.std.proofs.lemmas.List.{length-set}
use Rattle.metis_lines.proofs.FirstHeld.{copied}
use Rattle.metis_lines.proofs.held.copy_holders.Goals as goal

pub loop-pair-preserved : goal.loop-pair-preserved
loop-pair-preserved c =
    let i = c.loop-pair.pair-index in
    let q = c.pair-item.result in
    let old = c.loop-pair.holders in
    let size = ap length c.set.ensures ∙ length-set old q c.holder_in.result ∙ c.loop-pair.invariant.size in
    let at : get_or c.args.pairs.now i q < length c.args.holders.now = c.requires i q c.loop-pair-test.true in
    let low : q < length old = (let same = c.pair-item.is in let kept = c.loop-pair.invariant.size in omega arith) in
    record {
      size = size;
      copied = λ p. ap (λ t. get_or t p None) c.set.ensures
          ∙ copied old c.args.holders.now c.args.found.now c.args.pairs.now i q c.holder_in.result c.loop-pair-test.true c.pair-item.is low c.holder_in.ensures c.loop-pair.invariant.copied p;
    }
