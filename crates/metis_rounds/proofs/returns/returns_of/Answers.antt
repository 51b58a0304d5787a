use Rattle.std.proofs.Common.{not, ◌∙◌}
use Rattle.std.specs.List.{list_any}
use Rattle.metis_lines.specs.Terms.{is_end, is_return_of, line_supplies}
use Rattle.metis_events.specs.Terms.{without_supplies}
use Rattle.metis_rounds.proofs.Brought.{rows_kept, more_lines}
use Rattle.metis_rounds.proofs.returns.returns_of.Goals as goal

pub loop-number-preserved : goal.loop-number-preserved
loop-number-preserved c =
    let x = c.args.over.now.lines in
    let w = without_supplies x in
    let g = line_supplies c.args.over.now.universe c.args.over.now.support x in
    let n = c.loop-number.number in
    record {
      rows = rows_kept w (λ e f. list_any (is_return_of w e f) (g n)) c.loop-number.table c.add_line_returns.new.table c.in_ok-add_line_returns.ensures c.loop-number.invariant.rows;
      each = λ e f. c.in_ok-add_line_returns.ensures.each e f ∙ more_lines (is_return_of w e f) g n (not (is_end f)) _ (c.loop-number.invariant.each e f);
    }
