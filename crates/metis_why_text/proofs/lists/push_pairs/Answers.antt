use Rattle.std.proofs.Common.{◌++◌, ap, ◌∙◌}
use Rattle.std.specs.Prelude.{codes, string_bytes}
use Rattle.metis_tokens.proofs.Words.{added_next}
use Rattle.metis_universe.specs.Terms.{pair_word}
use Rattle.metis_why_text.proofs.lists.push_pairs.Goals as goal

pub loop-pair-preserved : goal.loop-pair-preserved
loop-pair-preserved c =
    let u = c.args.u.now in
    let p = c.pair-item.result in
    record {
      text = c.in_ok-push_pair.ensures ∙ ap (λ l. l ++ (codes " " ++ pair_word u p)) c.loop-pair.invariant.text
          ∙ added_next (pair_word u) (string_bytes c.args.text.now) c.args.pairs.now c.loop-pair.pair-index p p c.loop-pair-test.true c.pair-item.is;
    }
