use Rattle.std.proofs.Common.{◌≡◌, ◌-◌, ℕ, List, ap, length, map, subst, sym, ◌∙◌}
use Rattle.std.proofs.lemmas.List.{length-map}
use Rattle.std.specs.List.{All}
use Rattle.metis_lines.specs.Terms.{AbstractPlan, event_cmp, events, plan_of}
use Rattle.metis_lines.proofs.Formed.{lines_formed}
use Rattle.std.specs.List.Sorted.{IsStrictlySortedBy}
use Rattle.metis_events.proofs.AllEvents.{events_ascend}
use Rattle.metis_events.proofs.Numbered.{joined}
use Rattle.metis_events.proofs.NumberRows.{graph_is, rows_ascend, rows_of}
use Rattle.metis_events.proofs.graph.EventGraph.of.Goals as goal
use Rattle.metis_sort.specs.Terms.{ascending, graph_into}
use Rattle.metis_events.specs.Terms.{IsJoined, before, graph_by, graph_of}

pub edges_into_all-requires : goal.edges_into_all-requires
edges_into_all-requires c = c.deref.ensures.value ∙ c.in_ok-events.ensures.events

pub number_rows-requires-clause-ascend : goal.number_rows-requires-clause-ascend
number_rows-requires-clause-ascend c = subst (IsStrictlySortedBy event_cmp) (sym (c.deref-3.ensures.value ∙ c.in_ok-events.ensures.events)) (events_ascend (plan_of c.args.over.now.universe c.args.over.now.support c.args.over.now.lines))

pub number_rows-requires-clause-joined : goal.number_rows-requires-clause-joined
number_rows-requires-clause-joined c =
    let u = c.args.over.now.universe in
    let s = c.args.over.now.support in
    let x = c.args.over.now.lines in
    let w : AbstractPlan = plan_of u s x in
    let listed : c.in_ok-events.events.items ≡ events w = c.in_ok-events.ensures.events in
    let rows : c.in_ok-edges.edges.items ≡ map (before w) (events w) = c.in_ok-edges.ensures ∙ ap (map (before w)) (c.deref.ensures.value ∙ listed) in
    subst IsJoined (λ i. graph_by (sym (c.deref-3.ensures.value ∙ listed) i) (sym (c.deref-5.ensures.value ∙ rows) i))
    (joined u w (lines_formed u s c.keeps_invariant.ensures.over.support x c.keeps_invariant.ensures.over.lines))

pub returns : goal.returns
returns c =
    let w : AbstractPlan = plan_of c.args.over.now.universe c.args.over.now.support c.args.over.now.lines in
    let listed : c.in_ok-events.events.items ≡ events w = c.in_ok-events.ensures.events in
    let rows : c.in_ok-edges.edges.items ≡ map (before w) (events w) = c.in_ok-edges.ensures ∙ ap (map (before w)) (c.deref.ensures.value ∙ listed) in
    (λ i. graph_by (listed i) (rows i))

pub of_befores-requires-clause-rows : goal.of_befores-requires-clause-rows
of_befores-requires-clause-rows c =
    let w : AbstractPlan = plan_of c.args.over.now.universe c.args.over.now.support c.args.over.now.lines in
    let listed : c.in_ok-events.events.items ≡ events w = c.in_ok-events.ensures.events in
    let rows : c.in_ok-edges.edges.items ≡ map (before w) (events w) = c.in_ok-edges.ensures ∙ ap (map (before w)) (c.deref.ensures.value ∙ listed) in
    let made : c.in_ok-befores.befores ≡ rows_of (graph_of w) = c.in_ok-befores.ensures ∙ (λ i. rows_of (graph_by ((c.deref-3.ensures.value ∙ listed) i) ((c.deref-5.ensures.value ∙ rows) i))) in
    subst (λ (r : List (List ℕ)). All (λ row. ascending (length r) row ≡ row) r) (sym made) (rows_ascend w)

pub invariant_of-result : goal.invariant_of-result
invariant_of-result c =
    let w : AbstractPlan = plan_of c.args.over.now.universe c.args.over.now.support c.args.over.now.lines in
    let all = c.in_ok-events.events.items in
    let edges = c.in_ok-edges.edges.items in
    let listed : all ≡ events w = c.in_ok-events.ensures.events in
    let rows : edges ≡ map (before w) (events w) = c.in_ok-edges.ensures ∙ ap (map (before w)) (c.deref.ensures.value ∙ listed) in
    let each : length edges ≡ length all = ap length rows ∙ length-map (events w) (before w) ∙ sym (ap length listed) in
    let made : c.in_ok-befores.befores ≡ rows_of (graph_by all edges) = c.in_ok-befores.ensures ∙ (λ i. rows_of (graph_by (c.deref-3.ensures.value i) (c.deref-5.ensures.value i))) in
    let count : c.len.result ≡ length all = c.len.ensures ∙ sym c.deref.ensures.len ∙ ap length c.deref.ensures.value in
    record {
      each = each;
      few = c.in_ok-events.ensures.few;
      ascend = subst (IsStrictlySortedBy event_cmp) (sym listed) (events_ascend w);
      is_dag = c.in_ok-dag.ensures ∙ (λ i. graph_into (made i) (count i - 1)) ∙ graph_is (graph_by all edges) each;
    }
