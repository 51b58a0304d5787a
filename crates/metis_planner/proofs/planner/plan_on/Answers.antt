use Rattle.metis_planner.proofs.Forced.{all_justified, cycles_of_two, events_low, pairs_low}
use Rattle.metis_planner.proofs.Planning.{layered_each}
use Rattle.metis_planner.proofs.Rounded.{bounded, dups_at_most, holds, instances_counted, lean, named, realizes, short_enough, tidy}
use Rattle.metis_planner.proofs.planner.plan_on.Goals as goal

pub returns : goal.returns
returns c =
    let u = c.args.u.now in
    let g = c.args.targets.now in
    let table = c.keeps_invariant.ensures in
    let all = layered_each u g c.requires.layered in
    let plan = c.in_ok-plan.plan in
    let by = c.in_ok-plan.ensures in
    let real = realizes u table g all plan by in
    record {
      run = real.run;
      holds = holds u table g all plan by;
      numbers = real.numbers;
      named = named u table g all plan by c.requires.few;
      tidy = tidy u table g all plan by;
      instances = instances_counted u table g all plan by;
      lean = lean u table g all plan by;
      bounded = bounded u table g all plan by c.requires.few;
      short = short_enough u table g all plan by;
      lines = real.paths;
      justified = all_justified u table g all plan.dups by.forced;
      dups = dups_at_most u table g all plan by;
      doubled = pairs_low u table g all plan.dups by.forced;
      cycles = cycles_of_two u table g all plan.dups by.forced;
      events = events_low u table g all plan.dups by.forced c.requires.few;
      rounds = by;
    }
