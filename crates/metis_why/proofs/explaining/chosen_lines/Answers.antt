use Rattle.metis_refusal.specs.Terms.{flag}
use Rattle.metis_why.proofs.Chosen.{distance_enough}
use Rattle.metis_why.proofs.Farther.{distance_apart}
use Rattle.metis_why.proofs.Listed.{why_by}
use Rattle.metis_why.proofs.Nearest.{cut_apart, cut_nearest, needed_where_nearest}
use Rattle.metis_why.proofs.explaining.chosen_lines.Goals as goal

pub keep_near-requires : goal.keep_near-requires
keep_near-requires c = distance_enough c.args.target.now.u.now (flag c.args.held.now) c.args.target.now.goal c.requires.enough c.in_ok-order.order.items c.in_ok-order.ensures

pub leave_out_all-requires-clause-apart : goal.leave_out_all-requires-clause-apart
leave_out_all-requires-clause-apart c =
    let cut = c.in_ok-needed.ensures.cut in
    cut_apart c.in_ok-order.order.items c.keep_near.new.order.items c.deref.result.now cut.0 cut.1 c.deref.ensures.value
    (distance_apart c.args.target.now.u.now (flag c.args.held.now) c.args.target.now.goal c.in_ok-order.order.items c.in_ok-order.ensures)

pub returns-clause-why : goal.returns-clause-why
returns-clause-why c =
    why_by c.args.target.now.u.now (flag c.leave_out_all.new.held) c.args.target.now.goal c.in_ok-lines.lines.items c.in_ok-leave_out_all.ensures.within
    (needed_where_nearest c.args.target.now.u.now c.args.target.now.goal c.deref.result.now (flag c.leave_out_all.new.held) c.in_ok-leave_out_all.ensures.nearest) c.in_ok-lines.ensures.listing

pub returns-clause-chosen : goal.returns-clause-chosen
returns-clause-chosen c =
    let cut = c.in_ok-needed.ensures.cut in
    record {
      lacking = flag c.args.held.now;
      are_lacking = c.requires.lacking;
      order = c.in_ok-order.order.items;
      by_distance = c.in_ok-order.ensures;
      needed = flag c.leave_out_all.new.held;
      nearest =
          cut_nearest c.in_ok-order.order.items c.keep_near.new.order.items c.deref.result.now cut.0 cut.1 c.deref.ensures.value c.args.target.now.u.now c.args.target.now.goal (flag c.leave_out_all.new.held)
          c.in_ok-leave_out_all.ensures.nearest;
      told = c.in_ok-lines.ensures.told;
    }
