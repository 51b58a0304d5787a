use Rattle.std.proofs.Common.{◌≡◌, ◌-◌, [], length}
use Rattle.std.specs.Prelude.{map}
use Rattle.metis_text.specs.Terms.{dup_row, dups_from}
use Rattle.metis_text.proofs.read.read_dups.Given as goal

abbrev pub invariant-loop-index : goal.invariant-loop-index
invariant-loop-index l = record {
  rest : dups_from l.u l.count [] l.initial.lines ≡ dups_from l.u (l.count - l.index) (map dup_row l.dups.items) l.lines;
  read : length l.dups.items ≡ l.index;
}
