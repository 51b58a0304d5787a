use Rattle.std.proofs.Common.{◌≡◌, ◌<◌, ◌++◌, ◌∷◌, [], true, Some, set, take, sym, ap, ◌∙◌, subst}
use Rattle.std.specs.Prelude.{IsSomeAnd}
use Rattle.std.specs.Option.{option_or}
use Rattle.std.proofs.lemmas.Bool.{both_ways}
use Rattle.std.proofs.lemmas.List.{take_all}
use Rattle.std.proofs.lemmas.List.Elements.{All-get_or}
use Rattle.metis_ids.proofs.Lists.{has_at}
use Rattle.metis_universe.specs.Terms.{has, next_of, pair_count}
use Rattle.metis_layers.proofs.Sets.{take_more}
use Rattle.metis_choice.proofs.Below.{IsNoted, is_above, leads_up, noted_all, noted_past, noted_up}
use Rattle.metis_choice.proofs.origins.note_origin.Goals as goal
use Rattle.metis_choice.proofs.origins.note_origin.Goals.{then-is_above, else-is_above}

pub loop-to-preserved : goal.loop-to-preserved
loop-to-preserved c =
    let u = c.args.u.now in
    let n = c.args.from in
    let l = c.args.layer in
    let moves = c.next-to-items.result.now in
    let i = c.loop-to.to-index in
    let x = c.to-item.result in
    let old = c.loop-to.origins in
    let seen = take i moves in
    let is = c.to-item.is in
    let at = All-get_or (λ q. q < pair_count u) moves i x c.loop-to-test.true c.next-to-items.ensures.within in
    let low : x < pair_count u = subst (λ y. y < pair_count u) (sym is) at in
    let leads : has (next_of u n) x ≡ true = ap (λ ys. has ys x) (sym c.next-to-items.ensures.pairs) ∙ subst (λ y. has moves y ≡ true) (sym is) (has_at moves i x c.loop-to-test.true) in
    let layer = c.of.ensures ∙ c.requires.layers.layer x low in
    subst (λ s. IsNoted u n s c.if-is_above.origins) (sym (take_more moves i x c.loop-to-test.true is)) (elim c.if-is_above.branch [
      | then-is_above w ↦ subst (IsNoted u n (seen ++ x ∷ []))
          (sym (w.origins-is ∙ w.set.ensures ∙ ap (set old x) (w.or.ensures ∙ ap (λ o. option_or o (Some n)) w.origin_in-known.ensures)))
          (noted_up u n x seen old low c.loop-to.invariant (leads_up u n x l c.requires.layer leads (subst (λ o. IsSomeAnd o (λ m. l < m)) layer (c.is_above.ensures.0 w.if-is_above.true))))
      | else-is_above w ↦ subst (IsNoted u n (seen ++ x ∷ [])) (sym w.origins-is)
          (noted_past u n x seen old low c.loop-to.invariant (λ up. both_ways c.is_above.result w.if-is_above.false (c.is_above.ensures.1 (subst (λ o. IsSomeAnd o (λ m. l < m)) (sym layer) (is_above u n x l c.requires.layer up)))))
    ])

pub returns : goal.returns
returns c =
    let moves = c.next-to-items.result.now in
    noted_all c.args.u.now c.args.from c.loop-to.origins
    (subst (λ s. IsNoted c.args.u.now c.args.from s c.loop-to.origins) (take_all c.loop-to.to-index moves c.loop-to-test.false ∙ c.next-to-items.ensures.pairs) c.loop-to.invariant)
