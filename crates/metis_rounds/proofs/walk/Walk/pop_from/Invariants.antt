use Rattle.std.proofs.Common.{◌≡◌, ◌≤◌, length, take}
use Rattle.metis_rounds.specs.Terms.{place_in}
use Rattle.metis_rounds.proofs.walk.Walk.pop_from.Given as goal

-- it has first steps of those at the start, and all before the event
abbrev pub invariant-loop-self : goal.invariant-loop-self
invariant-loop-self l = record {
  first : l.self ≡ take (length l.self) l.initial.self;
  enough : place_in l.initial.self l.e ≤ length l.self;
}

abbrev pub decreases-loop-self : goal.decreases-loop-self
decreases-loop-self l = length l.self
