use Rattle.std.proofs.Common.{◌≡◌, ◌∙◌, ◌∷◌, [], true, ap, sym, subst}
use Rattle.metis_gen.specs.Terms.{generated}
use Rattle.metis_outside.specs.Terms.{IsLine}
use Rattle.metis_output.specs.Terms.{status_for}
use Rattle.metis_plan_commands.proofs.LoadLines.{IsLine-load_line, good_alone, loaded_by}
use Rattle.metis_plan_commands.specs.Terms.{is_good}
use Rattle.metis_universe.specs.Terms.{Attains}
use Rattle.metis_plan_commands.proofs.load.planned_load.Goals as goal

pub line_answer-requires : goal.line_answer-requires
line_answer-requires c = subst IsLine (sym c.in_ok-load_line.ensures) (IsLine-load_line c.args.n c.args.u.now c.args.targets.now _)

pub returns : goal.returns
returns c =
    let u = c.args.u.now in
    let targets = c.args.targets.now in
    let plan = c.in_ok-plan.plan in
    let found = c.in_ok-plan.ensures in
    let judged = c.in_ok-good.ensures in
    let good : c.in_ok-good.good ≡ true = judged.2 ∙ ap is_good (good_alone u plan.actions targets judged.0 c.keeps_invariant.ensures.universe found.numbers found.run.run found.holds judged.1) in
    loaded_by c.args.n u targets plan c.requires.universe c.requires.targets found.rounds (λ other by. c.rounds_come_to_one_plan.ensures u targets other plan by found.rounds) found.run.run found.holds
    c.line_answer.result.lines (status_for c.line_answer.result.good) (c.line_answer.ensures.lines ∙ ap (λ l. l ∷ []) c.in_ok-load_line.ensures, ap status_for (c.line_answer.ensures.good ∙ good))

pub plan_over-requires-clause-attained : goal.plan_over-requires-clause-attained
plan_over-requires-clause-attained c =
    subst (λ u. Attains u c.args.targets.now) (sym c.requires.universe)
    (subst (Attains (generated c.args.n)) (sym c.requires.targets) (c.targets_are_attained.ensures c.args.n c.requires.at_most))
