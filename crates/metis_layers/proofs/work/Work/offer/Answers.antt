use Rattle.std.proofs.Common.{◌<◌, Some, length, set, sym, ap, ◌∙◌, arith, length-set}
use Rattle.std.specs.Option.{is_some}
use Rattle.metis_layers.specs.Terms.{unmet_of, unoffered}
use Rattle.metis_layers.proofs.CounterFacts.{none_at, offer_less, offer_owed, tallied_offer}
use Rattle.metis_layers.proofs.work.Work.offer.Goals as goal

pub meet_all-requires-clause-owed : goal.meet_all-requires-clause-owed
meet_all-requires-clause-owed g c = λ q.
    let u = g.R.Reading.universe c.args.r.now in
    let w = c.args.self.now in
    let port = c.args.port in
    let below = c.requires.port in
    let size = c.requires.counting.ports in
    let low : port < length w.first.items = omega arith in
    let none = none_at w.first.items c.port.inside.0 port c.index.result.now c.is_none.result c.port.view_is low (ap is_some (sym c.index.ensures) ∙ c.is_none.ensures) c.if-is_none.true in
    offer_owed u c.requires.table.universe w.first.items port c.args.p low none w.counters.unmet c.requires.counting.tallied q

pub returns-in_err-meet_all-clause-cost : goal.returns-in_err-meet_all-clause-cost
returns-in_err-meet_all-clause-cost g c =
    let u = g.R.Reading.universe c.args.r.now in
    let first = c.args.self.now.first.items in
    let port = c.args.port in
    let below = c.requires.port in
    let size = c.requires.counting.ports in
    let low : port < length first = omega arith in
    let none = none_at first c.port.inside.0 port c.index.result.now c.is_none.result c.port.view_is low (ap is_some (sym c.index.ensures) ∙ c.is_none.ensures) c.if-is_none.true in
    let less = offer_less u c.requires.table.universe first port c.args.p low none below in
    let same = ap (λ k. unoffered u (set first k (Some c.args.p))) c.port.view_is in
    let spent = c.in_err-meet_all.ensures.cost in
    omega arith

pub returns-in_ok-meet_all-clause-counting : goal.returns-in_ok-meet_all-clause-counting
returns-in_ok-meet_all-clause-counting g c =
    let u = g.R.Reading.universe c.args.r.now in
    let w = c.args.self.now in
    let first = w.first.items in
    let port = c.args.port in
    let below = c.requires.port in
    let size = c.requires.counting.ports in
    let low : port < length first = omega arith in
    let none = none_at first c.port.inside.0 port c.index.result.now c.is_none.result c.port.view_is low (ap is_some (sym c.index.ensures) ∙ c.is_none.ensures) c.if-is_none.true in
    let meets = c.in_ok-meet_all.ensures.meets in
    record {
      pairs = ap length meets.rounds ∙ c.requires.counting.pairs;
      ports = length-set first c.port.inside.0 (Some c.args.p) ∙ size;
      settled = c.in_ok-meet_all.ensures.settled;
      tallied = λ q.
          tallied_offer u c.requires.table.universe first port c.args.p low none w.counters.unmet c.meet_all.new.self.unmet c.requires.counting.tallied meets.unmet q
          ∙ sym (ap (λ k. unmet_of u (set first k (Some c.args.p)) q) c.port.view_is);
    }

pub returns-in_ok-meet_all-clause-cost : goal.returns-in_ok-meet_all-clause-cost
returns-in_ok-meet_all-clause-cost g c =
    let u = g.R.Reading.universe c.args.r.now in
    let first = c.args.self.now.first.items in
    let port = c.args.port in
    let below = c.requires.port in
    let size = c.requires.counting.ports in
    let low : port < length first = omega arith in
    let none = none_at first c.port.inside.0 port c.index.result.now c.is_none.result c.port.view_is low (ap is_some (sym c.index.ensures) ∙ c.is_none.ensures) c.if-is_none.true in
    let less = offer_less u c.requires.table.universe first port c.args.p low none below in
    let same = ap (λ k. unoffered u (set first k (Some c.args.p))) c.port.view_is in
    let spent = c.in_ok-meet_all.ensures.cost in
    omega arith
