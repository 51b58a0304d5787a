use Rattle.std.proofs.Common.{◌<◌, Some, None, length, get_or, set, ap, ◌∙◌, arith, length-set}
use Rattle.std.proofs.lemmas.List.{get_or_read}
use Rattle.metis_layers.specs.Terms.{Counters}
use Rattle.metis_layers.proofs.WorkFacts.{stamp_step}
use Rattle.metis_layers.proofs.counters.Counters.stamp.Goals as goal

pub loop-p-preserved : goal.loop-p-preserved
loop-p-preserved c =
    let i = c.loop-p.p-index in
    let p = c.p-item.result in
    let rounds = c.loop-p.self-inside.rounds.items in
    let old = c.self.inside.rounds.items in
    let inv = c.loop-p.invariant in
    let low = c.requires i c.loop-p-test.true in
    let same = get_or_read c.args.pairs.now i p c.loop-p-test.true c.p-item.is 0 in
    let size = inv.size in
    let whole = ap (λ (v : Counters). length v.rounds) c.self.view_is in
    let within : p < length rounds = omega arith in
    record {
      size = length-set rounds c.p.inside.0 (Some c.args.round) ∙ size;
      rounds = λ q. ap (λ k. get_or (set rounds k (Some c.args.round)) q None) c.p.view_is ∙ stamp_step rounds old c.args.pairs.now i p c.args.round c.loop-p-test.true c.p-item.is within inv.rounds q;
      led = inv.led;
      unmet = inv.unmet;
      next = inv.next;
    }
