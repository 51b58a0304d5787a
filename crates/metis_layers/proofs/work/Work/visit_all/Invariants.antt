use Rattle.std.proofs.Common.{◌≡◌, ◌+◌, ◌≤◌, ◌++◌, take}
use Rattle.metis_layers.specs.Terms.{IsTally, work_left}
use Rattle.metis_layers.proofs.work.Work.visit_all.Given as goal

abbrev pub invariant-loop-p : goal.invariant-loop-p
invariant-loop-p g l =
    let u = g.R.Reading.universe l.r in
    record {
      rounds : l.self.counters.rounds ≡ l.initial.self.counters.rounds;
      order : l.self.order.items ≡ l.initial.self.order.items ++ take l.p-index l.frontier;
      tally : IsTally u l.self;
      left : l.steps + work_left u l.self ≤ l.initial.steps + work_left u l.initial.self;
    }
