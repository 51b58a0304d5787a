use Rattle.std.proofs.Common.{◌∷◌, [], ◌++◌, ◌<◌, sym, ◌∙◌}
use Rattle.std.specs.Prelude.{codes}
use Rattle.std.proofs.lemmas.List.Elements.{All-same}
use Rattle.metis_ids.specs.declared.goals.Goal.TheVariants.{Port}
use Rattle.metis_tokens.proofs.Words.{words_added}
use Rattle.metis_tokens.specs.Terms.{added, words}
use Rattle.metis_universe.specs.Terms.{goal_word, pair_count, providers_of, provides}
use Rattle.metis_why_text.proofs.Named.{kept_below}
use Rattle.metis_why_text.specs.Terms.{list_words}
use Rattle.metis_why_text.proofs.words.port_words.Goals as goal

pub push_list-requires : goal.push_list-requires
push_list-requires c = let u = c.args.u.now in All-same (λ p. p < pair_count u) _ _ c.providers.ensures (kept_below u (λ p. provides u p c.args.port))

pub returns : goal.returns
returns c =
    let u = c.args.u.now in
    let r = c.args.port in
    let list = list_words u (providers_of u r) in
    c.in_ok-push_list.ensures
    ∙ (λ i. c.in_ok-text.ensures i ++ added (list_words u (c.providers.ensures i)))
    ∙ (λ i. words (codes "lacks" ∷ (codes "port" ++ (codes ":" ++ c.port_name.ensures i)) ∷ codes "from" ∷ []) ++ added list)
    ∙ sym (words_added (codes "lacks") (goal_word u (Port r) ∷ codes "from" ∷ []) list)
