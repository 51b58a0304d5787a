use Rattle.std.proofs.Common.{◌<◌, arith, length, subst, sym}
use Rattle.std.specs.List.{All}
use Rattle.metis_universe.proofs.Correctness.{all_from_has}
use Rattle.metis_universe.proofs.Ranges.{in_range}
use Rattle.metis_universe.specs.Terms.{numbers}
use Rattle.metis_place.specs.Terms.{is_placed_at}
use Rattle.metis_place.proofs.Placed.{no_more_held}
use Rattle.metis_place.proofs.Within.{hosts_within}
use Rattle.metis_place.proofs.placing.place.Goals as goal

pub returns-clause-placing : goal.returns-clause-placing
returns-clause-placing c =
    let settled = c.in_ok-settled.ensures.settled in
    record {
      hosts = settled.hosts;
      holds = c.in_ok-holds.ensures;
      placed = all_from_has (is_placed_at c.args.h.now c.args.actions.now) (numbers c.args.actions.now) (λ j there.
          let range = in_range 1 (length c.args.actions.now) j there in
          settled.placed j (omega (arith, range.1)));
    }

pub returns-clause-roomy : goal.returns-clause-roomy
returns-clause-roomy c = no_more_held c.args.u.now c.args.h.now c.args.actions.now c.requires.run c.requires.steadfast _ c.in_ok-holds.ensures

pub returns-clause-within : goal.returns-clause-within
returns-clause-within c = subst (All (λ i. i < length c.args.h.now.hosts)) (sym c.in_ok-settled.ensures.settled.hosts) (hosts_within c.args.h.now c.args.actions.now (length c.args.actions.now))
