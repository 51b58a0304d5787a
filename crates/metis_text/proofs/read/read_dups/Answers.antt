use Rattle.std.proofs.Common.{◌+◌, ◌-◌, [], ◌∷◌, ◌++◌, length, map, refl, sym, ap, ◌∙◌}
use Rattle.std.proofs.lemmas.List.{length-map, length_push, map-append}
use Rattle.std.proofs.lemmas.Result.{err_from_is_err_and}
use Rattle.metis_tokens.specs.Terms.{read_next}
use Rattle.metis_text.specs.Terms.{dup_in, dup_row, dups_from}
use Rattle.metis_text.proofs.NextRead.{reads_none, reads_one}
use Rattle.metis_text.proofs.read.read_dups.Goals as goal

pub returns-in_err-next_dup : goal.returns-in_err-next_dup
returns-in_err-next_dup c =
    let u = c.args.u.now in
    let number = ap (λ n. n + 1) (length-map c.loop-index.dups.items dup_row ∙ c.loop-index.invariant.read) in
    let p = err_from_is_err_and c.from_residual.result c.from_residual.ensures.1 in
    rw (p.1, p.2) (λ known. c.loop-index.invariant.rest
    ∙ reads_none (λ dups. dup_in u (length dups + 1)) (λ dups d. dups ++ d ∷ []) (dups_from u) (λ _ _ _. refl) c.args.count c.loop-index.index (map dup_row c.loop-index.dups.items) c.loop-index.lines _ c.loop-index-test.true (ap (λ n. read_next (dup_in u n) c.loop-index.lines) number ∙ c.in_err-next_dup.ensures known))

pub loop-index-preserved : goal.loop-index-preserved
loop-index-preserved c =
    let u = c.args.u.now in
    let dups = map dup_row c.loop-index.dups.items in
    let dup = c.in_ok-next_dup.field-0 in
    let number = ap (λ n. n + 1) (length-map c.loop-index.dups.items dup_row ∙ c.loop-index.invariant.read) in
    let pushed = ap (map dup_row) c.in_ok-push.ensures.items ∙ map-append dup_row c.loop-index.dups.items (dup ∷ []) in
    record {
      rest = c.loop-index.invariant.rest
          ∙ reads_one (λ dups. dup_in u (length dups + 1)) (λ dups d. dups ++ d ∷ []) (dups_from u) (λ _ _ _. refl) c.args.count c.loop-index.index dups c.loop-index.lines c.next_dup.new.lines (dup_row dup) c.loop-index-test.true (ap (λ n. read_next (dup_in u n) c.loop-index.lines) number ∙ c.in_ok-next_dup.ensures)
          ∙ ap (λ l. dups_from u (c.args.count - (c.loop-index.index + 1)) l c.next_dup.new.lines) (sym pushed);
      read = ap length c.in_ok-push.ensures.items ∙ length_push c.loop-index.dups.items dup ∙ ap (λ n. n + 1) c.loop-index.invariant.read;
    }
