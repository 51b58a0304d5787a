use Rattle.std.proofs.Common.{◌≡◌, ◌<◌, ◌≤◌, ◌-◌, ℕ, List, not, length, map, sym, ap, arith, subst}
use Rattle.std.specs.Prelude.{IfOk, IsTrue, IsFalse, OnOk}
use Rattle.std.proofs.lemmas.Result.{on_ok_weaker}
use Rattle.metis_lines.proofs.Formed.{lines_formed}
use Rattle.metis_ids.specs.Terms.{cycle_of}
use Rattle.metis_ids.specs.declared.events.Event.{Event}
use Rattle.metis_lines.specs.Terms.{IsFormed, Over, graph_over, is_event, last, plan_of, step_count}
use Rattle.metis_events.specs.Terms.{dag_of, graph_of, nth_event, without_supplies}
use Rattle.metis_rounds.proofs.Kept.{walk_kept}
use Rattle.metis_rounds.proofs.Reaches.{stuck_left}
use Rattle.metis_rounds.proofs.WalkOn.{begun_same, begun_walk, dropped_walk, unfinished_more}
use Rattle.metis_rounds.specs.Terms.{HasTables, IsBegun, IsWalk, is_stuck, is_taken, step_at, taken_of}
use Rattle.metis_rounds.proofs.course.Course.cycle.Goals.{After-deref}
use Rattle.metis_rounds.proofs.course.Course.cycle.Goals as goal

formed : (c : After-deref) → IsFormed c.args.universe.now (plan_of c.args.universe.now c.args.support.now c.args.self.now.lines)
formed c = lines_formed c.args.universe.now c.args.support.now c.requires.course.support c.args.self.now.lines c.requires.course.lines

left : (c : After-deref) (e : Event) → IsTrue (is_event (plan_of c.args.universe.now c.args.support.now c.args.self.now.lines) e) → is_stuck (plan_of c.args.universe.now c.args.support.now c.args.self.now.lines) e ≡ not (is_taken c.args.self.now.going.taken.items e)
left c = stuck_left c.args.universe.now (plan_of c.args.universe.now c.args.support.now c.args.self.now.lines) (formed c) c.args.self.now.going.taken.items c.requires.course.going.safe c.requires.stopped

pub begin_walk-requires-clause-done : goal.begin_walk-requires-clause-done
begin_walk-requires-clause-done c = λ l low.
    subst (λ (o : Over). step_count (without_supplies o.lines) l ≤ taken_of c.deref-2.result.now l) (sym c.over-over.ensures)
    (subst (λ ns. step_count (plan_of c.args.universe.now c.args.support.now c.args.self.now.lines) l ≤ taken_of ns l) (sym c.deref-2.ensures.value) (c.requires.course.done l low))

pub begin_walk-requires-clause-more : goal.begin_walk-requires-clause-more
begin_walk-requires-clause-more c =
    let w = plan_of c.args.universe.now c.args.support.now c.args.self.now.lines in
    let l = c.requires.stopped.unfinished.0 in
    let low = c.requires.stopped.unfinished.1 in
    let more = unfinished_more c.args.universe.now w (formed (goal.at.begin_walk-requires-clause-more c).After-deref) c.args.self.now.going.taken.items l low c.requires.stopped.unfinished.2 in
    subst (λ (o : Over). (k : ℕ) × (k < length o.lines.lines) × (taken_of c.deref-2.result.now k < step_count (without_supplies o.lines) k)) (sym c.over-over.ensures)
    (l, low, subst (λ ns. taken_of ns l < step_count w l) (sym c.deref-2.ensures.value) more)

pub walk_on-requires-clause-stuck : goal.walk_on-requires-clause-stuck
walk_on-requires-clause-stuck c =
    let w = plan_of c.args.universe.now c.args.support.now c.args.self.now.lines in
    subst (λ (o : Over). (e : Event) → IsTrue (is_event (graph_over o) e) → is_stuck (graph_over o) e ≡ not (is_taken c.deref-3.result.now e)) (sym c.over-over.ensures)
    (λ e there. subst (λ ns. is_stuck w e ≡ not (is_taken ns e)) (sym c.deref-3.ensures.value) (left (goal.at.walk_on-requires-clause-stuck c).After-deref e there))

pub walk_on-requires-clause-walk : goal.walk_on-requires-clause-walk
walk_on-requires-clause-walk c =
    let u = c.args.universe.now in
    let s = c.args.support.now in
    let x = c.args.self.now.lines in
    let w = plan_of u s x in
    let ns : List ℕ = c.args.self.now.going.taken.items in
    let at = (goal.at.walk_on-requires-clause-walk c).After-deref in
    let dropped = c.drop_taken.new.walk in
    let ends : 0 < length dropped → IsFalse (is_taken ns (step_at dropped (length dropped - 1))) = λ some. subst (λ ms. IsFalse (is_taken ms (step_at dropped (length dropped - 1)))) c.deref.ensures.value (c.drop_taken.ensures.last some) in
    let walk = dropped_walk u w (formed at) ns (left at) c.args.self.now.walk dropped c.requires.course.walk c.drop_taken.ensures.first ends in
    let begun = subst (λ ms. IsBegun w ms dropped c.begin_walk.new.walk) c.deref-2.ensures.value (begun_same u s x c.deref-2.result.now dropped c.begin_walk.new.walk
    (subst (λ (o : Over). IsBegun (without_supplies o.lines) c.deref-2.result.now dropped c.begin_walk.new.walk) c.over-over.ensures c.in_ok-self.ensures.begun)) in
    subst (λ (o : Over). IsWalk (graph_over o) c.begin_walk.new.walk) (sym c.over-over.ensures) (begun_walk u w (formed at) ns (left at) dropped c.begin_walk.new.walk walk begun)

pub returns-clause-course : goal.returns-clause-course
returns-clause-course c =
    let w = plan_of c.args.universe.now c.args.support.now c.args.self.now.lines in
    let before = c.requires.course in
    on_ok_weaker c.walk_on.result (λ (walk : IsWalk w c.walk_on.new.walk). record {
      support = before.support;
      lines = before.lines;
      uses = before.uses;
      returns = before.returns;
      going = before.going;
      walk = walk_kept w c.walk_on.new.walk walk;
      first = before.first;
      done = λ l low. subst (λ ns. step_count w l ≤ taken_of ns l) c.deref-2.ensures.value (subst (λ (o : Over). step_count (without_supplies o.lines) l ≤ taken_of c.deref-2.result.now l) c.over-over.ensures (c.in_ok-self.ensures.done l low));
      few = (before.few.0, omega (arith, c.in_ok-self.ensures.few, ap (λ (o : Over). length o.lines.lines) c.over-over.ensures));
    }) (subst (λ (o : Over). OnOk c.walk_on.result (IsWalk (graph_over o) c.walk_on.new.walk)) c.over-over.ensures c.walk_on.ensures.walk)

pub walk_on-requires-clause-tables : goal.walk_on-requires-clause-tables
walk_on-requires-clause-tables c = subst (λ (o : Over). HasTables o c.args.self.now.tables) (sym c.over-over.ensures) (record { uses = c.requires.course.uses; returns = c.requires.course.returns })

pub walk_on-requires-clause-first : goal.walk_on-requires-clause-first
walk_on-requires-clause-first c = λ l low.
    subst (λ (o : Over). last (graph_over o) l < taken_of c.deref-3.result.now l) (sym c.over-over.ensures)
    (subst (λ ns. last (plan_of c.args.universe.now c.args.support.now c.args.self.now.lines) l < taken_of ns l) (sym c.deref-3.ensures.value) (c.requires.course.first l low))

pub returns-clause-cycle : goal.returns-clause-cycle
returns-clause-cycle c =
    subst (λ (o : Over). IfOk c.walk_on.result (λ es. es.items ≡ map (nth_event (graph_over o)) (cycle_of (dag_of (graph_of (graph_over o)))))) c.over-over.ensures c.walk_on.ensures.cycle
