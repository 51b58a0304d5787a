-- What is known of a plan that was made.
use Rattle.std.proofs.Common.{ℕ, List, Result, Ok, Err, sym, subst, inl, inr}
use Rattle.std.specs.Prelude.{IfOk}
use Rattle.metis_ids.specs.Plans as plans
use Rattle.metis_ids.specs.declared.actions.Action.{Action}
use Rattle.metis_ids.specs.declared.goals.Goal.{Goal}
use Rattle.metis_ids.specs.declared.no_memory.NoMemory.{NoMemory}
use Rattle.metis_output.specs.declared.status.Status.{Status}
use Rattle.metis_plan_commands.specs.Terms.{HasAttempted, IsOfPlan, IsPlanned, PlanAnswer, Plans, Reconfigures, Refuses, RolloutAnswer, RollsOut, RollsOutGoals, RollsOutPairs, RollsOutTo, TellsPlanned, plan_text}
use Rattle.metis_plan_commands.specs.declared.planned.Planned.{Planned}
use Rattle.metis_plan_commands.specs.declared.planned.Planned.TheVariants.{Plan, Refusal}
use Rattle.metis_plan_commands.specs.declared.reconfigure.Attempt.TheVariants as attempt
use Rattle.metis_universe.specs.Terms.{Universe}
use Rattle.metis_wishes.specs.declared.wish.Wish.{Wish}

-- what its text is, a plan is
pub planned_by : (u : Universe) (goals : List Goal) (plan : plans.Plan) (made : Result Planned NoMemory) → Plans u goals (plan_text u plan) → IfOk made (IsOfPlan plan) → IfOk made (IsPlanned u goals)
planned_by u goals plan (Ok (Plan p w)) plans of = subst (λ q. Plans u goals (plan_text u q)) (sym of) plans
planned_by u goals plan (Ok (Refusal r)) plans of = absurd of
planned_by u goals plan (Err e) plans of = tt

pub rolled_by : (u : Universe) (old : List Action) (g : List ℕ) (plan : plans.Plan) (made : Result Planned NoMemory) → RollsOutPairs u old g (plan_text u plan) → IfOk made (IsOfPlan plan) → IfOk made (RollsOutTo u old g)
rolled_by u old g plan (Ok (Plan p w)) rolls of = subst (λ q. RollsOutPairs u old g (plan_text u q)) (sym of) rolls
rolled_by u old g plan (Ok (Refusal r)) rolls of = absurd of
rolled_by u old g plan (Err e) rolls of = tt

pub attempted_by : (u : Universe) (goals : List Goal) (old : List Action) (wishes : List Wish) (plan : plans.Plan) (made : Planned) → Reconfigures u goals old wishes (plan_text u plan) → IsOfPlan plan made
    → HasAttempted u goals old wishes (attempt.Planned made)
attempted_by u goals old wishes plan (Plan p w) is of = subst (λ q. Reconfigures u goals old wishes (plan_text u q)) (sym of) is
attempted_by u goals old wishes plan (Refusal r) is of = absurd of

-- what is told of it answers
pub told_planned : (u : Universe) (goals : List Goal) (made : Planned) (lines : List (List ℕ)) (status : Status) → IsPlanned u goals made → TellsPlanned u made lines status → PlanAnswer u goals lines status
told_planned u goals (Plan p w) lines status is told = inl (told.1, subst (Plans u goals) (sym told.0) is)
told_planned u goals (Refusal r) lines status is told = inr (told.1, subst (Refuses u goals) (sym told.0) is)

pub told_rolled : (u : Universe) (goals : List Goal) (old : List Action) (made : Planned) (lines : List (List ℕ)) (status : Status) → RollsOutGoals u goals old made → TellsPlanned u made lines status
    → RolloutAnswer u goals old lines status
told_rolled u goals old (Plan p w) lines status is told = inl (told.1, subst (RollsOut u goals old) (sym told.0) is)
told_rolled u goals old (Refusal r) lines status is told = inr (told.1, subst (Refuses u goals) (sym told.0) is)
