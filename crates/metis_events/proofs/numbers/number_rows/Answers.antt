use Rattle.std.proofs.Common.{◌≡◌, ◌<◌, ◌++◌, ◌∷◌, ℕ, [], List, length, get_or, map, take, arith, ap, subst, sym, ◌∙◌}
use Rattle.std.proofs.lemmas.List.{map-append, take_more}
use Rattle.std.specs.List.{All, position_or_len}
use Rattle.metis_lines.specs.Terms.{same_event}
use Rattle.metis_events.specs.declared.edges.Edge.{Edge}
use Rattle.metis_events.specs.Terms.{graph_by, number_of}
use Rattle.metis_events.proofs.numbers.number_rows.Goals as goal

pub put_numbers-requires-clause-from : goal.put_numbers-requires-clause-from
put_numbers-requires-clause-from c =
    subst (λ (ys : List Edge). All (λ (y : Edge). position_or_len (same_event y.from) c.args.events.now < length c.args.events.now) ys) (sym (c.as_slice.ensures ∙ c.row-item.is))
    (c.requires.joined.from c.loop-row.row-index c.row-item.result (omega arith))

pub loop-row-preserved : goal.loop-row-preserved
loop-row-preserved c =
    let number : List Edge → List ℕ = map (λ (e : Edge). number_of (graph_by c.args.events.now c.args.edges.now) e.from) in
    let edges = c.args.edges.now in
    let i = c.loop-row.row-index in
    let row : c.deref.result.now ≡ number (get_or edges i c.row-item.result) = c.deref.ensures.value ∙ c.in_ok-put_numbers.ensures ∙ ap number (c.as_slice.ensures ∙ c.row-item.is) in
    c.in_ok-push.ensures ∙ (λ j. c.loop-row.invariant j ++ row j ∷ [])
    ∙ sym (map-append number (take i edges) (get_or edges i c.row-item.result ∷ []))
    ∙ ap (map number) (sym (take_more edges i c.row-item.result c.loop-row-test.true))
