use Rattle.std.proofs.Common.{◌≡◌, ◌-◌, [], length}
use Rattle.metis_text.specs.Terms.{rows_from, rows_of}
use Rattle.metis_text.proofs.read.read_rows.Given as goal

abbrev pub invariant-loop-index : goal.invariant-loop-index
invariant-loop-index l = record {
  rest : rows_from l.u l.count (rows_of [] []) l.initial.lines ≡ rows_from l.u (l.count - l.index) l.rows l.lines;
  read : length l.rows.actions ≡ l.index;
}
