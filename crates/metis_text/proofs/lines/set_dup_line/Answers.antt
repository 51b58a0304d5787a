use Rattle.std.proofs.Common.{◌++◌, ◌∷◌, [], map, sym, ap, ◌∙◌}
use Rattle.std.specs.Prelude.{codes, decimal, string_bytes}
use Rattle.metis_tokens.proofs.Words.{words_added}
use Rattle.metis_tokens.specs.Terms.{added, words}
use Rattle.metis_text.specs.Terms.{event_token}
use Rattle.metis_universe.specs.Terms.{pair_word}
use Rattle.metis_text.proofs.lines.set_dup_line.Goals as goal

pub returns : goal.returns
returns c =
    let events = map event_token c.dup.inside.cycle.items in
    let others = decimal c.args.number ∷ pair_word c.args.u.now c.dup.inside.pair ∷ codes "cycle" ∷ [] in
    rw (← c.dup.view_is) (
    c.in_ok-push_str.ensures.bytes
    ∙ ap (λ l. l ++ codes "\n") (c.in_ok-push_events.ensures ∙ ap (λ es. string_bytes c.push_dup.new.line ++ added (map event_token es)) c.deref.ensures.value
    ∙ ap (λ l. l ++ added events) (c.in_ok-push_dup.ensures ∙ ap (λ l. l ++ words (codes "dup" ∷ others)) c.clear.ensures.bytes) ∙ sym (words_added (codes "dup") others events)))
