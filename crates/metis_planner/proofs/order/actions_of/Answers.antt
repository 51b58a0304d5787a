use Rattle.std.proofs.Common.{◌≡◌, ◌∙◌, ◌<◌, List, ap, map, sym, subst, length, get_or}
use Rattle.std.specs.Prelude.{IfOk}
use Rattle.metis_ids.proofs.Orders.{order_sorts, order_unique}
use Rattle.metis_ids.specs.Terms.{IsOrder as IsOrderOfNodes}
use Rattle.metis_ids.specs.declared.events.Event.{Event}
use Rattle.metis_ids.proofs.Lists.{has_at}
use Rattle.metis_emit.proofs.Least.{least_order}
use Rattle.metis_emit.proofs.Numbered.{least_numbers}
use Rattle.metis_lines.proofs.Formed.{lines_formed}
use Rattle.metis_emit.specs.Terms.{emission}
use Rattle.metis_events.proofs.Numbered.{graph_of_plan}
use Rattle.metis_events.specs.Terms.{EventGraph, dag_of, event_at, graph_of, nth_event}
use Rattle.metis_lines.specs.Terms.{IsOrder, plan_of}
use Rattle.metis_planner.specs.Terms.{ordered_events}
use Rattle.metis_planner.proofs.order.actions_of.Goals as goal

pub events_of-requires : goal.events_of-requires
events_of-requires c =
    let u = c.args.over.now.universe in
    let nodes = c.args.nodes.now in
    let w = plan_of u c.args.over.now.support c.args.over.now.lines in
    let of = graph_of_plan u w (lines_formed u c.args.over.now.support c.keeps_invariant.ensures.over.support c.args.over.now.lines c.keeps_invariant.ensures.over.lines) in
    let order : IsOrderOfNodes (dag_of (graph_of w)) nodes = subst (λ (e : EventGraph). IsOrderOfNodes (dag_of e) nodes) c.requires.graph c.requires.order in
    let sorting = order_sorts (dag_of (graph_of w)) nodes of.within order in
    λ k d low. subst (λ (e : EventGraph). get_or nodes k d < length e.events) (sym c.requires.graph) (sorting.nodes (get_or nodes k d) (has_at nodes k d low))

pub emit-requires : goal.emit-requires
emit-requires c =
    let u = c.args.over.now.universe in
    let nodes = c.args.nodes.now in
    let w = plan_of u c.args.over.now.support c.args.over.now.lines in
    let of = graph_of_plan u w (lines_formed u c.args.over.now.support c.keeps_invariant.ensures.over.support c.args.over.now.lines c.keeps_invariant.ensures.over.lines) in
    let order : IsOrderOfNodes (dag_of (graph_of w)) nodes = subst (λ (e : EventGraph). IsOrderOfNodes (dag_of e) nodes) c.requires.graph c.requires.order in
    let sorting = order_sorts (dag_of (graph_of w)) nodes of.within order in
    let least = least_numbers w (dag_of (graph_of w)) of nodes order sorting in
    subst (IsOrder w) (sym (c.deref.ensures.value ∙ c.in_ok-events.ensures ∙ ap (λ (e : EventGraph). map (event_at e) nodes) c.requires.graph)) (least_order u w (map (nth_event w) nodes) least)

pub returns : goal.returns
returns c =
    let u = c.args.over.now.universe in
    let nodes = c.args.nodes.now in
    let w = plan_of u c.args.over.now.support c.args.over.now.lines in
    let order : IsOrderOfNodes (dag_of (graph_of w)) nodes = subst (λ (e : EventGraph). IsOrderOfNodes (dag_of e) nodes) c.requires.graph c.requires.order in
    let same : c.deref.result.now ≡ ordered_events w =
    c.deref.ensures.value ∙ c.in_ok-events.ensures ∙ ap (λ (e : EventGraph). map (event_at e) nodes) c.requires.graph ∙ ap (map (nth_event w)) (order_unique (dag_of (graph_of w)) nodes order) in
    subst (λ (es : List Event). IfOk c.emit.result (λ actions. actions.items ≡ emission u w es)) same c.emit.ensures
