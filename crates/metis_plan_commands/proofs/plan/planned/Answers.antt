use Rattle.std.proofs.Common.{arith}
use Rattle.metis_plan_commands.proofs.MadePlans.{planned_by}
use Rattle.metis_plan_commands.proofs.PlanAnswers.{IsKnown, answer_by_plan, answer_for_goals, refused_in_words, refuses}
use Rattle.metis_plan_commands.specs.Terms.{plan_text}
use Rattle.metis_plan_commands.proofs.plan.planned.Goals as goal

pub plan_over-requires-clause-few : goal.plan_over-requires-clause-few
plan_over-requires-clause-few c =
    let aim = rw c.in-Pairs.is at c.in_ok-resolved.ensures.resolved in
    rw c.deref.ensures.value (omega (arith, aim.few, c.requires.few))

pub plan_over-requires-clause-attained : goal.plan_over-requires-clause-attained
plan_over-requires-clause-attained c =
    let aim = rw c.in-Pairs.is at c.in_ok-resolved.ensures.resolved in
    rw c.deref.ensures.value aim.attained

pub returns-in_ok-plan-in-Pairs-clause-planned : goal.returns-in_ok-plan-in-Pairs-clause-planned
returns-in_ok-plan-in-Pairs-clause-planned c =
    let u = c.args.u.now in
    let goals = c.args.goals.now in
    let pairs = c.in-Pairs.pairs.items in
    let plan = c.in_ok-plan-in-Pairs.plan in
    let aim = rw c.in-Pairs.is at c.in_ok-resolved.ensures.resolved in
    let attains = c.pairs_for_goals_hold_them.ensures.attains u goals pairs aim.resolved in
    let found = rw c.deref.ensures.value at c.in_ok-plan-in-Pairs.ensures in
    let known : IsKnown u pairs plan = record { table = c.keeps_invariant.ensures; known = found; without_cycle = c.nothing_is_doubled_without_a_cycle.ensures u pairs plan found.rounds } in
    planned_by u goals plan c.with_waits.result (answer_for_goals u goals pairs aim.resolved attains (plan_text u plan) (answer_by_plan u pairs plan known)) c.with_waits.ensures.plan

pub returns-in-Lacks-clause-planned : goal.returns-in-Lacks-clause-planned
returns-in-Lacks-clause-planned c =
    let refusal = rw c.in-Lacks.is at c.in_ok-resolved.ensures.resolved in
    refuses c.args.u.now c.args.goals.now c.refusal.result c.in-Lacks.lacks c.keeps_invariant.ensures.universe c.refusal.ensures.lacks c.refusal.ensures.pairs refusal

pub returns-in-Lacks-clause-printable : goal.returns-in-Lacks-clause-printable
returns-in-Lacks-clause-printable c =
    let refusal = rw c.in-Lacks.is at c.in_ok-resolved.ensures.resolved in
    (c.refusal.ensures.size, refused_in_words c.args.u.now c.args.goals.now c.refusal.result c.in-Lacks.lacks c.refusal.ensures.lacks refusal c.requires.wordable)
