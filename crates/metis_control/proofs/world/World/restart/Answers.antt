use Rattle.std.proofs.Common.{◌∙◌}
use Rattle.metis_control.specs.Terms.{state_of}
use Rattle.metis_control.proofs.Happened.{restart_reached}
use Rattle.metis_control.proofs.world.World.restart.Goals as goal

pub invariant_of-self : goal.invariant_of-self
invariant_of-self c =
    let f = c.self.inside in
    let old = c.self.invariant in
    record {
      few = old.few;
      listed = c.restart.ensures.each ∙ old.listed;
      owned = old.owned;
      reached = restart_reached f.actions.now (state_of f.packets.items f.controller.acked f.agents.entries f.ran.items) c.args.n c.restart.result c.restart.new.self.acked old.reached c.restart.ensures.acked;
    }
