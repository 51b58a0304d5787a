use Rattle.std.proofs.Common.{◌≡◌, map}
use Rattle.std.specs.List.{range_with_len}
use Rattle.metis_universe.specs.Terms.{origin_of}
use Rattle.metis_support.specs.Terms.{of_selected}
use Rattle.metis_choice.proofs.tables.origin_table.Given as goal

abbrev pub invariant-loop-number : goal.invariant-loop-number
invariant-loop-number l = l.table ≡ map (of_selected l.selected.members (origin_of l.u)) (range_with_len 0 l.number)
