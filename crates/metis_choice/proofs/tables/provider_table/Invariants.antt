use Rattle.std.proofs.Common.{◌≡◌, ◌<◌, ◌++◌, ℕ, None, get_or, length}
use Rattle.metis_universe.specs.Terms.{port_count, provider_of}
use Rattle.metis_support.specs.Terms.{of_needed}
use Rattle.metis_choice.proofs.tables.provider_table.Given as goal

abbrev pub invariant-loop-pair : goal.invariant-loop-pair
invariant-loop-pair l = record {
  left : l.yielded ++ l.pair-iterator ≡ l.selected.members;
  size : length l.table ≡ port_count l.u;
  needed : (r : ℕ) → r < port_count l.u → get_or l.table r None ≡ of_needed l.u l.yielded (provider_of l.u) r;
}
