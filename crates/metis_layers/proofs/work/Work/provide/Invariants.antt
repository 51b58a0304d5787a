use Rattle.std.proofs.Common.{◌+◌, ◌-◌, ◌≤◌, length, take}
use Rattle.metis_universe.specs.Terms.{provided_of}
use Rattle.metis_layers.specs.Terms.{IsCounting, Provides, offers_left}
use Rattle.metis_layers.proofs.work.Work.provide.Given as goal

abbrev pub invariant-loop-port : goal.invariant-loop-port
invariant-loop-port g l =
    let u = g.R.Reading.universe l.r in
    let ys = provided_of u l.p in
    record {
      within : l.k ≤ length ys;
      counting : IsCounting u l.self;
      provides : Provides (take l.k ys) l.p l.initial.self l.self;
      cost : l.steps + offers_left u l.self ≤ l.initial.steps + offers_left u l.initial.self + l.k;
    }

abbrev pub decreases-loop-port : goal.decreases-loop-port
decreases-loop-port g l = length (provided_of (g.R.Reading.universe l.r) l.p) - l.k
