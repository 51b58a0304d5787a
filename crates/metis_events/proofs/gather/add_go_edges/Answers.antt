use Rattle.metis_events.proofs.Adding.{rows_more}
use Rattle.metis_events.proofs.gather.add_go_edges.Goals as goal
use Rattle.metis_events.specs.Terms.{go_edges, without_supplies}

pub loop-number-preserved : goal.loop-number-preserved
loop-number-preserved c = rows_more (go_edges (without_supplies c.args.over.now.lines)) c.loop-number.number c.args.edges.now c.loop-number.edges c.add_go_edges_of.new.edges c.loop-number.invariant c.in_ok-add_go_edges_of.ensures
