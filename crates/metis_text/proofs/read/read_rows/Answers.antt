use Rattle.std.proofs.Common.{◌+◌, ◌-◌, length, refl, sym, ap, ◌∙◌}
use Rattle.std.proofs.lemmas.List.{length_push}
use Rattle.std.proofs.lemmas.Result.{err_from_is_err_and}
use Rattle.metis_text.specs.Terms.{Row, Rows, row_in, rows_from, with_row}
use Rattle.metis_text.proofs.NextRead.{reads_none, reads_one}
use Rattle.metis_text.proofs.read.read_rows.Goals as goal

pub returns-in_err-action : goal.returns-in_err-action
returns-in_err-action c =
    let u = c.args.u.now in
    let p = err_from_is_err_and c.from_residual.result c.from_residual.ensures.1 in
    rw (p.1, p.2) (λ known. c.loop-index.invariant.rest
    ∙ reads_none (λ (rows : Rows). row_in u rows.actions) with_row (rows_from u) (λ _ _ _. refl) c.args.count c.loop-index.index c.loop-index.rows c.loop-index.lines _ c.loop-index-test.true (c.in_err-action.ensures known))

pub loop-index-preserved : goal.loop-index-preserved
loop-index-preserved c =
    let u = c.args.u.now in
    let row : Row = (c.in_ok-action.action, c.in_ok-action.after.items) in
    record {
      rest = c.loop-index.invariant.rest
          ∙ reads_one (λ (rows : Rows). row_in u rows.actions) with_row (rows_from u) (λ _ _ _. refl) c.args.count c.loop-index.index c.loop-index.rows c.loop-index.lines c.next_row.new.lines row c.loop-index-test.true c.in_ok-action.ensures
          ∙ ap (λ (rows : Rows). rows_from u (c.args.count - (c.loop-index.index + 1)) rows c.next_row.new.lines) (sym c.in_ok-rows.ensures);
      read = ap (λ (rows : Rows). length rows.actions) c.in_ok-rows.ensures ∙ length_push c.loop-index.rows.actions row.0 ∙ ap (λ n. n + 1) c.loop-index.invariant.read;
    }
