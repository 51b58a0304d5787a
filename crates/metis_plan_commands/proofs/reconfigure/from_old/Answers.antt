use Rattle.metis_plan_commands.proofs.PlanAnswers.{refused_in_words, refuses}
use Rattle.metis_plan_commands.proofs.reconfigure.from_old.Goals as goal

pub to_goals-requires-clause-attained : goal.to_goals-requires-clause-attained
to_goals-requires-clause-attained c =
    let aim = rw c.in-Pairs.is at c.in-Ok.ensures.resolved in
    c.pairs_for_goals_hold_them.ensures.attains c.args.u.now c.args.goals.now c.in-Pairs._pairs.items aim.resolved aim.attained

pub returns-in-Lacks-clause-attempted : goal.returns-in-Lacks-clause-attempted
returns-in-Lacks-clause-attempted c =
    let refusal = rw c.in-Lacks.is at c.in-Ok.ensures.resolved in
    refuses c.args.u.now c.args.goals.now c.refusal.result c.in-Lacks.lacks c.keeps_invariant.ensures.universe c.refusal.ensures.lacks c.refusal.ensures.pairs refusal

pub returns-in-Lacks-clause-tellable : goal.returns-in-Lacks-clause-tellable
returns-in-Lacks-clause-tellable c =
    let refusal = rw c.in-Lacks.is at c.in-Ok.ensures.resolved in
    (c.refusal.ensures.size, refused_in_words c.args.u.now c.args.goals.now c.refusal.result c.in-Lacks.lacks c.refusal.ensures.lacks refusal c.requires.wordable)
