use Rattle.std.proofs.Common.{◌++◌, sym, ap, ◌∙◌}
use Rattle.metis_tokens.proofs.Words.{words_added}
use Rattle.metis_tokens.specs.Terms.{added}
use Rattle.metis_universe.specs.Terms.{pair_word}
use Rattle.metis_why.specs.Terms.{named_by}
use Rattle.metis_why_text.specs.Terms.{list_words, reason_tokens}
use Rattle.metis_why_text.proofs.words.line_words.Goals as goal

pub returns : goal.returns
returns c =
    let u = c.args.u.now in
    let l = c.args.line.now in
    let list = list_words u (named_by u l.pair l.reason) in
    c.in_ok-push_named.ensures
    ∙ ap (λ b. b ++ added list) c.in_ok-text.ensures
    ∙ sym (words_added (pair_word u l.pair) (reason_tokens u l.pair l.reason) list)
