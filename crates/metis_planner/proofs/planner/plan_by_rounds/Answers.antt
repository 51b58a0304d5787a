use Rattle.std.proofs.Common.{◌≡◌, ◌∙◌, ◌∷◌, ◌++◌, [], sym, ap, subst}
use Rattle.std.specs.Prelude.{IsTrue}
use Rattle.metis_ids.specs.Terms.{HasCycle}
use Rattle.metis_support.specs.Terms.{IsSupport, is_selected, support_of}
use Rattle.metis_lines.specs.Terms.{AbstractPlan, lines_of}
use Rattle.metis_rounds.specs.Terms.{IsForced, IsRoundOf, RoundsState, graph_now}
use Rattle.metis_rounds.specs.declared.rounds.Round.{Round}
use Rattle.metis_planner.proofs.Forced.{support, targets}
use Rattle.metis_planner.proofs.Planning.{layered_each}
use Rattle.metis_planner.proofs.UnderWay.{graph_over, with_dup}
use Rattle.metis_planner.specs.Terms.{IsUnderWay, graph_after, numbered}
use Rattle.metis_planner.proofs.planner.plan_by_rounds.Goals as goal

pub new-requires-clause-support : goal.new-requires-clause-support
new-requires-clause-support c =
    subst (λ s. IsSupport c.args.u.now s) (sym c.requires.support) (support c.args.u.now c.keeps_invariant.ensures c.args.targets.now (layered_each c.args.u.now c.args.targets.now c.requires.layered))

pub new-requires-clause-selected : goal.new-requires-clause-selected
new-requires-clause-selected c = λ p there.
    subst (λ s. IsTrue (is_selected s p)) (sym c.requires.support) (targets c.args.u.now c.keeps_invariant.ensures c.args.targets.now (layered_each c.args.u.now c.args.targets.now c.requires.layered) p there)

pub ordered_plan-requires-clause-ended : goal.ordered_plan-requires-clause-ended
ordered_plan-requires-clause-ended c =
    let r = c.loop-dups.rounds in
    let known = c.loop-dups.invariant in
    let now = graph_over c.args.u.now c.args.targets.now r.universe r.support r.lines c.loop-dups.dups.items known.universe (known.support ∙ c.requires.support) known.under_way.lines in
    subst (λ (w : AbstractPlan). HasCycle (numbered w) → ⊥) now (subst (λ (o : Round). IsRoundOf r o) c.in-Ended.is c.in_ok-lines.ensures).1

pub loop-dups-preserved : goal.loop-dups-preserved
loop-dups-preserved c =
    let u = c.args.u.now in
    let g = c.args.targets.now in
    let r = c.loop-dups.rounds in
    let ds = c.loop-dups.dups.items in
    let known = c.loop-dups.invariant in
    let stuck = c.in-Stuck.stuck in
    let dup = c.in_ok-dup-in-Stuck.dup in
    let next = c.in_ok-dup-in-Stuck.next in
    let doubled = c.in_ok-dup-in-Stuck.ensures in
    let same : stuck ≡ r = (subst (λ (o : Round). IsRoundOf r o) c.in-Stuck.is c.in_ok-lines.ensures).0 in
    let universe = ap (λ (a : RoundsState). a.universe) same ∙ known.universe in
    let support_now = ap (λ (a : RoundsState). a.support) same ∙ known.support in
    let selection = support_now ∙ c.requires.support in
    let graph : graph_now stuck ≡ graph_after u g ds = graph_over u g stuck.universe stuck.support stuck.lines ds universe selection (ap (λ (a : RoundsState). a.lines) same ∙ known.under_way.lines) in
    let forced : IsForced (graph_after u g ds) dup = subst (λ (w : AbstractPlan). IsForced w dup) graph doubled.forced in
    let lines : next.lines ≡ lines_of u (support_of u g) r.lines.targets (r.lines.own ++ dup.pair ∷ []) =
    ap (λ (a : RoundsState). a.lines) doubled.rounds ∙ (λ i. lines_of (universe i) (selection i) (same i).lines.targets ((same i).lines.own ++ dup.pair ∷ [])) in
    record {
      universe = ap (λ (a : RoundsState). a.universe) doubled.rounds ∙ universe;
      support = ap (λ (a : RoundsState). a.support) doubled.rounds ∙ support_now;
      under_way = subst (IsUnderWay u g next.lines) (sym c.in_ok-push-in-Stuck.ensures.items) (with_dup u g c.keeps_invariant.ensures (layered_each u g c.requires.layered) r.lines ds known.under_way dup forced next.lines lines);
    }
