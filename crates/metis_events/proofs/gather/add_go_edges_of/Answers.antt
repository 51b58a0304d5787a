use Rattle.std.proofs.Common.{◌≡◌, ◌-◌, ◌∷◌, ◌++◌, [], ℕ, List, arith, map, subst}
use Rattle.std.specs.List.{range_with_len}
use Rattle.metis_ids.specs.declared.events.Event.{Event}
use Rattle.metis_ids.specs.declared.events.Event.TheVariants.{At, End}
use Rattle.metis_lines.specs.Terms.{last, step_count}
use Rattle.metis_events.proofs.Adding.{mapped_more}
use Rattle.metis_events.proofs.Targets.{adds_both}
use Rattle.metis_events.proofs.gather.add_go_edges_of.Goals as goal
use Rattle.metis_events.specs.declared.edges.Edge.{Edge}
use Rattle.metis_events.specs.declared.edges.EdgeKind.TheVariants.{Go}
use Rattle.metis_events.specs.Terms.{Adds, edge_of, next_edge, without_supplies}

pub loop-step-preserved : goal.loop-step-preserved
loop-step-preserved c = mapped_more (next_edge c.args.line) c.loop-step.step c.args.edges.now c.loop-step.edges c.add.new.self c.loop-step.invariant c.in_ok-add.ensures

pub returns : goal.returns
returns c =
    let w = without_supplies c.args.over.now.lines in
    let l : ℕ = c.args.line in
    let old = c.args.edges.now in
    let new = c.add-2.new.self in
    let step : c.loop-step.step ≡ step_count w l - 1 = omega (arith, c.loop-step-test.false, c.loop-step.auto.step-end, c.step_count-step-end.ensures.count, c.step_count-step-end.ensures.some) in
    let end : c.last.result ≡ last w l = omega (arith, c.last.ensures.last) in
    let ending : ℕ → List (Event × Edge) = λ j. (End, edge_of (At l j) Go) ∷ [] in
    subst (λ n. Adds (map (next_edge l) (range_with_len 0 n) ++ ending (last w l)) old new) step
    (subst (λ j. Adds (map (next_edge l) (range_with_len 0 c.loop-step.step) ++ ending j) old new) end
    (adds_both (map (next_edge l) (range_with_len 0 c.loop-step.step)) (ending c.last.result) old c.loop-step.edges new c.loop-step.invariant c.in_ok-add-2.ensures))
