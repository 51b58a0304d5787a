use Rattle.std.proofs.Common.{◌≡◌, length, take, sym, ap, ◌∙◌, subst, arith}
use Rattle.std.proofs.lemmas.List.{take_all}
use Rattle.metis_ids.proofs.Lists.{end_past}
use Rattle.metis_universe.specs.Terms.{requirers_of}
use Rattle.metis_layers.specs.Terms.{Meets}
use Rattle.metis_layers.proofs.CounterFacts.{counter_some, counter_step, entry_low, entry_there, requirers_few, requirers_within}
use Rattle.metis_layers.proofs.counters.Counters.meet_all.Goals as goal

pub meet-requires-clause-pair : goal.meet-requires-clause-pair
meet-requires-clause-pair g c =
    let u = g.R.Reading.universe c.args.r.now in
    let low = requirers_within u c.args.port c.in-Some.q (entry_there (requirers_of u c.args.port) c.loop-q.k c.in-Some.q (sym c.in-Some.ensures.value)) in
    let size = c.requires.pairs in
    let same = ap length c.loop-q.invariant.meets.rounds in
    omega arith

pub meet-requires-clause-some : goal.meet-requires-clause-some
meet-requires-clause-some g c =
    let u = g.R.Reading.universe c.args.r.now in
    counter_some (requirers_of u c.args.port) c.loop-q.k c.in-Some.q (sym c.in-Some.ensures.value) c.loop-q.self.unmet c.args.self.now.unmet c.loop-q.invariant.meets.unmet (c.requires.owed c.in-Some.q)

pub overflow_add-k : goal.overflow_add-k
overflow_add-k g c =
    let u = g.R.Reading.universe c.args.r.now in
    let low = entry_low (requirers_of u c.args.port) c.loop-q.k c.in-Some.q (sym c.in-Some.ensures.value) in
    let few = requirers_few u c.args.port in
    let all = c.requires.table.limits.pairs in
    omega arith

pub loop-q-smaller : goal.loop-q-smaller
loop-q-smaller g c =
    let u = g.R.Reading.universe c.args.r.now in
    let low = entry_low (requirers_of u c.args.port) c.loop-q.k c.in-Some.q (sym c.in-Some.ensures.value) in
    omega arith

pub loop-q-preserved : goal.loop-q-preserved
loop-q-preserved g c =
    let u = g.R.Reading.universe c.args.r.now in
    let ys = requirers_of u c.args.port in
    let k = c.loop-q.k in
    let q = c.in-Some.q in
    let here = sym c.in-Some.ensures.value in
    let low = entry_low ys k q here in
    let before = c.loop-q.invariant.meets in
    let now = c.in_ok-meet.ensures.meets in
    record {
      within = omega arith;
      meets = record {
        rounds = now.rounds ∙ before.rounds;
        led = now.led ∙ before.led;
        unmet = counter_step ys k q here c.loop-q.self.unmet c.args.self.now.unmet before.unmet c.meet.new.self.unmet now.unmet;
      };
      settled = c.in_ok-meet.ensures.settled;
      cost = let a = c.requirer_at.ensures.cost in let b = c.loop-q.invariant.cost in omega arith;
    }

pub returns-clause-meets : goal.returns-clause-meets
returns-clause-meets g c =
    let u = g.R.Reading.universe c.args.r.now in
    let ys = requirers_of u c.args.port in
    let all : take c.loop-q.k ys ≡ ys = take_all c.loop-q.k ys (end_past ys c.loop-q.k c.in_default.ensures.value) in
    subst (λ zs. Meets zs c.args.self.now c.loop-q.self) all c.loop-q.invariant.meets
