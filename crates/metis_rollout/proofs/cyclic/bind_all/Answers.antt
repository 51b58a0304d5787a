use Rattle.std.proofs.Common.{◌<◌, ◌++◌, ◌∙◌, ap, map}
use Rattle.metis_universe.specs.Terms.{pair_count}
use Rattle.metis_rollout.specs.Terms.{bind, holder_at, named}
use Rattle.metis_rollout.proofs.CycleList.{bound_next, rest_all, ties_of}
use Rattle.metis_rollout.proofs.cyclic.bind_all.Goals as goal

pub loop-z-preserved : goal.loop-z-preserved
loop-z-preserved c = record {
  within = rest_all (λ p. p < pair_count c.args.u.now) c.loop-z.z-iterator c.next.new.self (c.in-Some.z, c.in-Some.p) c.loop-z.invariant.within c.in-Some.ensures.steps;
  actions = bound_next c.args.u.now (λ r k. named c.args.names.now.entries (holder_at c.args.firsts.now r k)) c.args.actions.now.items c.loop-z.actions.items c.bind_slots.new.actions.items c.args.c.now.instances c.loop-z.z-iterator c.next.new.self (c.in-Some.z, c.in-Some.p)
      c.loop-z.invariant.actions c.in-Some.ensures.steps (c.in_ok-bind_slots.ensures ∙ ap (λ slots. c.loop-z.actions.items ++ map bind (ties_of (λ r k. named c.args.names.now.entries (holder_at c.args.firsts.now r k)) c.in-Some.z slots)) (c.deref.ensures.value ∙ c.in_ok-slots.ensures.slots));
}
