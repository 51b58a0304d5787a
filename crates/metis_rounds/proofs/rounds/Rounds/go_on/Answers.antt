use Rattle.std.proofs.Common.{◌≡◌, ◌∙◌, Bool, Ok, ap, subst}
use Rattle.metis_ids.specs.Terms.{HasCycle}
use Rattle.metis_lines.proofs.Formed.{lines_formed}
use Rattle.metis_lines.specs.Terms.{plan_of}
use Rattle.metis_events.specs.Terms.{dag_of, graph_of}
use Rattle.metis_rounds.specs.Terms.{HasEnded, HasStopped, IfMore, RoundsState, graph_now, state_of}
use Rattle.metis_rounds.proofs.Ended.{no_cycle_left}
use Rattle.metis_rounds.proofs.Ends.{stopped_cycle}
use Rattle.metis_rounds.proofs.rounds.Rounds.go_on.Goals as goal

pub returns-then-branch : goal.returns-then-branch
returns-then-branch c =
    let u = c.self.inside.universe.now in
    let s = c.self.inside.support.now in
    let r = c.go_on.new.self in
    let w = plan_of u s r.lines in
    let course = c.in_ok-go_on.ensures.course in
    let now : state_of u s r.lines ≡ c.args.self = ap (state_of u s) c.in_ok-go_on.ensures.lines ∙ c.self.view_is in
    let stopped = subst (λ (b : Bool). IfMore (Ok b) (HasStopped w r.going.taken.items) (HasEnded w r.going.taken.items)) c.if-branch.true c.in_ok-go_on.ensures.more in
    let cycle = stopped_cycle u w (lines_formed u s c.self.invariant.support r.lines course.lines) r.going.taken.items course.going.safe stopped in
    (now, subst (λ (a : RoundsState). HasCycle (dag_of (graph_of (graph_now a)))) now cycle)

pub returns : goal.returns
returns c =
    let u = c.self.inside.universe.now in
    let s = c.self.inside.support.now in
    let r = c.go_on.new.self in
    let w = plan_of u s r.lines in
    let course = c.in_ok-go_on.ensures.course in
    let now : state_of u s r.lines ≡ c.args.self = ap (state_of u s) c.in_ok-go_on.ensures.lines ∙ c.self.view_is in
    let ended = subst (λ (b : Bool). IfMore (Ok b) (HasStopped w r.going.taken.items) (HasEnded w r.going.taken.items)) c.if-branch.false c.in_ok-go_on.ensures.more in
    let none = no_cycle_left u s r.lines c.keeps_invariant.ensures.universe c.self.invariant.support course.lines r.going.taken.items course.going.safe ended in
    (c.into_lines.ensures ∙ ap (λ (a : RoundsState). a.lines) now, subst (λ (a : RoundsState). HasCycle (dag_of (graph_of (graph_now a))) → ⊥) now none)
