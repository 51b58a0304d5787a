use Rattle.std.proofs.Common.{◌∙◌, ◌<◌, ap, map, sym, subst, length, get_or}
use Rattle.metis_ids.specs.Terms.{IsOrder as IsOrderOfNodes}
use Rattle.metis_ids.proofs.Lists.{has_at}
use Rattle.metis_lines.specs.Terms.{IsOrder, plan_of}
use Rattle.metis_events.specs.Terms.{EventGraph, IsGraphOf, dag_of, event_at, graph_of, nth_event}
use Rattle.metis_lines.proofs.Formed.{lines_formed}
use Rattle.metis_probe.proofs.rounds.actions_of.Goals as goal

pub events_of-requires : goal.events_of-requires
events_of-requires c =
    let u = c.args.over.now.universe in
    let nodes = c.args.nodes.now in
    let w = plan_of u c.args.over.now.support c.args.over.now.lines in
    let of : IsGraphOf w (dag_of (graph_of w)) = c.dag_is_of_the_plan.ensures u w (lines_formed u c.args.over.now.support c.keeps_invariant.ensures.over.support c.args.over.now.lines c.keeps_invariant.ensures.over.lines) in
    let order : IsOrderOfNodes (dag_of (graph_of w)) nodes = subst (λ (e : EventGraph). IsOrderOfNodes (dag_of e) nodes) c.requires.graph c.requires.order in
    let sorting = c.order_is_a_sorting.ensures (dag_of (graph_of w)) nodes of.within order in
    λ k d low. subst (λ (e : EventGraph). get_or nodes k d < length e.events) (sym c.requires.graph) (sorting.nodes (get_or nodes k d) (has_at nodes k d low))

pub emit-requires : goal.emit-requires
emit-requires c =
    let u = c.args.over.now.universe in
    let nodes = c.args.nodes.now in
    let w = plan_of u c.args.over.now.support c.args.over.now.lines in
    let of : IsGraphOf w (dag_of (graph_of w)) = c.dag_is_of_the_plan.ensures u w (lines_formed u c.args.over.now.support c.keeps_invariant.ensures.over.support c.args.over.now.lines c.keeps_invariant.ensures.over.lines) in
    let order : IsOrderOfNodes (dag_of (graph_of w)) nodes = subst (λ (e : EventGraph). IsOrderOfNodes (dag_of e) nodes) c.requires.graph c.requires.order in
    let sorting = c.order_is_a_sorting.ensures (dag_of (graph_of w)) nodes of.within order in
    let least = c.sorted_numbers_are_least.ensures w (dag_of (graph_of w)) nodes of order sorting in
    let ordered = (c.least_order_ends_late.ensures w (map (nth_event w) nodes) least).0 in
    subst (IsOrder w) (sym (c.deref.ensures.value ∙ c.in_ok-events.ensures ∙ ap (λ (e : EventGraph). map (event_at e) nodes) c.requires.graph)) ordered
