use Rattle.std.proofs.Common.{arith}
use Rattle.metis_events.proofs.InRows.{changed_more}
use Rattle.metis_events.proofs.rows.put_in_order.Goals as goal
use Rattle.metis_events.specs.Terms.{in_order}

pub loop-place-preserved : goal.loop-place-preserved
loop-place-preserved c =
    changed_more in_order c.args.rows.now.items c.loop-place.rows.items c.loop-place.place c.index_mut.result.now c.put_in_order.new.self
    (omega (arith, c.loop-place-test.true, c.loop-place.auto.place-end, c.len-place-end.ensures)) c.loop-place.invariant c.index_mut.ensures.value c.put_in_order.ensures
