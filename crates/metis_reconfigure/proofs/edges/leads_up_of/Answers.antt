use Rattle.std.proofs.Common.{◌&&◌, not, sym, ◌∙◌}
use Rattle.metis_rollout.specs.Terms.{is_idle}
use Rattle.metis_universe.specs.Terms.{has}
use Rattle.metis_reconfigure.specs.Terms.{has_edge, leads_up}
use Rattle.metis_reconfigure.proofs.Edging.{edge_taken}
use Rattle.metis_reconfigure.proofs.edges.leads_up_of.Goals as goal

pub loop-tie-preserved-in_ok-insert : goal.loop-tie-preserved-in_ok-insert
loop-tie-preserved-in_ok-insert c =
    edge_taken (λ b. (b.1, b.2, b.0)) (λ b. not (is_idle c.args.u.now c.args.c.now b) && not (has c.args.free.now.keys b.1)) (has_edge (leads_up c.args.u.now c.args.c.now c.args.free.now.keys)) c.loop-tie.edges.keys c.insert.new.self.keys c.in-Some.tie
    c.loop-tie.tie-iterator c.next.new.self c.in-Some.ensures.steps (sym (c.leads_up.ensures c.in-Some.tie.2) ∙ c.if-leads_up.true) c.in_ok-insert.ensures.keys c.loop-tie.invariant
