use Rattle.std.proofs.Common.{◌≡◌, ◌+◌, ◌-◌, ◌≤◌, length, take}
use Rattle.metis_universe.specs.Terms.{requirers_of}
use Rattle.metis_layers.specs.Terms.{IsSettled, Meets}
use Rattle.metis_layers.proofs.counters.Counters.meet_all.Given as goal

abbrev pub invariant-loop-q : goal.invariant-loop-q
invariant-loop-q g l =
    let ys = requirers_of (g.R.Reading.universe l.r) l.port in
    record {
      within : l.k ≤ length ys;
      meets : Meets (take l.k ys) l.initial.self l.self;
      settled : IsSettled l.self;
      cost : l.steps ≡ l.initial.steps + l.k;
    }

abbrev pub decreases-loop-q : goal.decreases-loop-q
decreases-loop-q g l = length (requirers_of (g.R.Reading.universe l.r) l.port) - l.k
