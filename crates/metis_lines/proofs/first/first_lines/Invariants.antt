use Rattle.std.proofs.Common.{◌≡◌, ◌++◌, ◌&&◌, not, map}
use Rattle.std.specs.List.{filter}
use Rattle.metis_support.specs.Terms.{path_to}
use Rattle.metis_universe.specs.Terms.{has}
use Rattle.metis_lines.proofs.first.first_lines.Given as goal
use Rattle.metis_lines.specs.Terms.{is_origin}

abbrev pub invariant-loop-pair : goal.invariant-loop-pair
invariant-loop-pair l = record {
  left : l.yielded ++ l.pair-iterator ≡ l.s.selected.members;
  lines : l.lines.items ≡ map (path_to l.s) (l.targets ++ filter (λ p. not (has l.targets p) && not (is_origin l.s p)) l.yielded);
}
