use Rattle.std.proofs.Common.{◌≡◌, take}
use Rattle.std.specs.List.{filter, slice_index_or}
use Rattle.metis_universe.specs.Terms.{is_left, pair_at}
use Rattle.metis_universe.proofs.universe.Universe.required_left.Given as goal

abbrev pub invariant-loop-r : goal.invariant-loop-r
invariant-loop-r l = l.left.items ≡ filter (is_left (λ r. slice_index_or l.given r 0) (pair_at l.self l.p)) (take l.r-index l.r-items)
