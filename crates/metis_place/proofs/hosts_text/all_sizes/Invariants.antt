use Rattle.std.proofs.Common.{◌≡◌, map, take}
use Rattle.metis_place.specs.Terms.{entries_of, number_of}
use Rattle.metis_place.proofs.hosts_text.all_sizes.Given as goal

abbrev pub invariant-loop-kind : goal.invariant-loop-kind
invariant-loop-kind l = l.all.items ≡ map (λ kind. number_of (entries_of l.sizes.entries) kind.name) (take l.kind l.u.kinds)
