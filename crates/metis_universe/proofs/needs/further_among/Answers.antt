use Rattle.std.proofs.Common.{◌≡◌, ◌-◌, ◌∷◌, [], ◌++◌, get_or, ap, sym, ◌∙◌}
use Rattle.std.specs.List.{slice_index_or}
use Rattle.std.proofs.lemmas.List.{map_more}
use Rattle.metis_universe.specs.Terms.{count_in, need_rows_of}
use Rattle.metis_universe.proofs.needs.further_among.Goals as goal

pub loop-r-preserved : goal.loop-r-preserved
loop-r-preserved c =
    let needs = need_rows_of c.args.most.now.entries in
    let ports = c.args.ports.now in
    let numbers = c.args.numbers.now in
    let k = c.loop-r.r-index in
    let r = c.r-item.result in
    let own : c.besides_one.result ≡ count_in needs (slice_index_or ports (get_or numbers k r) []) - 1 = c.besides_one.ensures ∙ ap (λ s. count_in needs (slice_index_or ports s []) - 1) c.r-item.is in
    c.in_ok-push.ensures.items
    ∙ (λ i. c.loop-r.invariant i ++ own i ∷ [])
    ∙ sym (map_more (λ s. count_in needs (slice_index_or ports s []) - 1) numbers k r c.loop-r-test.true)
