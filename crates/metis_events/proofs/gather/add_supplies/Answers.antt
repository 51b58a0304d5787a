use Rattle.metis_lines.specs.Terms.{line_supplies}
use Rattle.metis_events.proofs.Adding.{supplies_more}
use Rattle.metis_events.proofs.gather.add_supplies.Goals as goal
use Rattle.metis_events.specs.Terms.{supply_edges, without_supplies}

pub loop-number-preserved : goal.loop-number-preserved
loop-number-preserved c =
    supplies_more (supply_edges (without_supplies c.args.over.now.lines)) (line_supplies c.args.over.now.universe c.args.over.now.support c.args.over.now.lines) c.loop-number.number c.args.edges.now c.loop-number.edges c.add_line_supplies.new.edges c.loop-number.invariant c.in_ok-add_line_supplies.ensures
