use Rattle.std.proofs.Common.{◌≡◌, ◌∙◌, ap, subst}
use Rattle.metis_ids.specs.Terms.{HasCycle}
use Rattle.metis_events.specs.Terms.{dag_of}
use Rattle.metis_lines.specs.Terms.{plan_of}
use Rattle.metis_sort.specs.Terms.{IsSorted}
use Rattle.metis_sort.specs.declared.sorted.Sorted.{Sorted}
use Rattle.metis_planner.specs.Terms.{numbered}
use Rattle.metis_planner.proofs.order.ordered_actions.Goals as goal

pub unreachable-requires : goal.unreachable-requires
unreachable-requires c =
    let w = plan_of c.args.over.now.universe c.args.over.now.support c.args.over.now.lines in
    let graph : c.dag.result.now ≡ numbered w = c.dag.ensures ∙ ap dag_of c.in_ok-graph.ensures in
    let sorted : IsSorted c.dag.result.now c.in_ok-nodes.field-0 = c.in_ok-nodes.ensures in
    c.requires (subst HasCycle graph (subst (λ (x : Sorted). IsSorted c.dag.result.now x) c.in-Cycle.is sorted).0)
