use Rattle.metis_reconfigure.proofs.Reaching.{under_way-closed, under_way-end, under_way-next}
use Rattle.metis_reconfigure.proofs.reach.follow_all.Goals as goal

pub instances-init : goal.instances-init
instances-init c = λ starts edges k. k

pub instances-preserved : goal.instances-preserved
instances-preserved c = λ starts edges k. under_way-next starts edges c.instances.left.keys _ c.instances.seen.keys _ c.instances.waiting.items c.next_of.new.waiting.items _ c.in-Some.z c.in-Some.ensures (c.instances.invariant starts edges k) c.in_ok-follow_from.ensures

pub returns : goal.returns
returns c = λ starts edges k.
    let done = c.instances.invariant starts edges k in (
      under_way-end starts edges c.instances.left.keys c.instances.seen.keys c.instances.waiting.items c.in_default.ensures done,
      under_way-closed starts edges c.instances.left.keys c.instances.seen.keys c.instances.waiting.items c.in_default.ensures done,
    )
