use Rattle.std.proofs.Common.{◌∙◌, length, refl, sym, ap, subst}
use Rattle.metis_ids.specs.Terms.{HasCycle}
use Rattle.metis_support.specs.Terms.{IsSupport}
use Rattle.metis_emit.specs.Terms.{emission}
use Rattle.metis_lines.specs.Terms.{AbstractPlan, AreLines, LifeLines, Over, graph_over as graph_of}
use Rattle.metis_planner.proofs.Forced.{support}
use Rattle.metis_planner.proofs.Planning.{layered_each}
use Rattle.metis_planner.proofs.UnderWay.{graph_over, lines_now}
use Rattle.metis_planner.specs.Terms.{numbered, ordered_events}
use Rattle.metis_planner.proofs.planner.ordered_plan.Goals as goal

pub over-over-requires-clause-support : goal.over-over-requires-clause-support
over-over-requires-clause-support c =
    subst (λ s. IsSupport c.args.u.now s) (sym c.requires.support) (support c.args.u.now c.keeps_invariant.ensures c.args.targets.now (layered_each c.args.u.now c.args.targets.now c.requires.layered))

pub over-over-requires-clause-lines : goal.over-over-requires-clause-lines
over-over-requires-clause-lines c =
    let u = c.args.u.now in
    let g = c.args.targets.now in
    let x = c.args.lines.now in
    subst (λ s. AreLines u s x) (sym c.requires.support) (lines_now u g c.keeps_invariant.ensures (layered_each u g c.requires.layered) x c.args.dups.items c.requires.under_way)

pub ordered_actions-requires : goal.ordered_actions-requires
ordered_actions-requires c =
    let now = graph_over c.args.u.now c.args.targets.now c.args.u.now c.args.s.now c.args.lines.now c.args.dups.items refl c.requires.support c.requires.under_way.lines in
    subst (λ (o : Over). HasCycle (numbered (graph_of o)) → ⊥) (sym c.over-over.ensures) (subst (λ (w : AbstractPlan). HasCycle (numbered w) → ⊥) (sym now) c.requires.ended)

pub returns : goal.returns
returns c =
    let u = c.args.u.now in
    let now = graph_over u c.args.targets.now u c.args.s.now c.args.lines.now c.args.dups.items refl c.requires.support c.requires.under_way.lines in
    record {
      forced = c.requires.under_way.forced;
      ended = c.requires.ended;
      actions = c.in_ok-actions.ensures ∙ ap (λ (o : Over). emission o.universe (graph_of o) (ordered_events (graph_of o))) c.over-over.ensures ∙ ap (λ (w : AbstractPlan). emission u w (ordered_events w)) now;
      instances = c.count.ensures.count ∙ ap (λ (y : LifeLines). length y.lines) c.requires.under_way.lines;
    }
