-- What a planner comes to.
--     TellsPlanned u made lines status      the lines are the text of the plan, or of the refusal
--     IsPlanned u goals made      it is a plan for the goals, or a refusal of them
--     IsOfPlan plan made      it is this plan
--     IsPrintable u made      it has a text
use Rattle.std.specs.Prelude.{◌≡◌, ◌<◌, ◌-◌, ◌^◌, ℕ, List, length}
use Rattle.std.specs.List.{All}
use Rattle.metis_ids.specs.Plans as plans
use Rattle.metis_ids.specs.declared.goals.Goal.{Goal}
use Rattle.metis_output.specs.declared.status.Status.{Status}
use Rattle.metis_output.specs.declared.status.Status.TheVariants.{Done, No}
use Rattle.metis_plan_commands.specs.Plan.{Plans, Refuses, plan_text}
use Rattle.metis_plan_commands.specs.declared.planned.Planned.{Planned}
use Rattle.metis_plan_commands.specs.declared.planned.Planned.TheVariants.{Plan, Refusal}
use Rattle.metis_text.specs.Terms.{refusal_lines}
use Rattle.metis_universe.specs.Terms.{IsOf, IsWordable, Universe, pair_count}
use Rattle.metis_waits.specs.Terms.{AreWaits, WaitLists}

abbrev pub TellsPlanned : Universe → Planned → List (List ℕ) → Status → Type 0
TellsPlanned u (Plan p w) lines status = (lines ≡ plan_text u p) × (status ≡ Done)
TellsPlanned u (Refusal r) lines status = (lines ≡ refusal_lines u r.pairs.members r.lacks) × (status ≡ No)

abbrev pub IsPlanned : Universe → List Goal → Planned → Type 0
IsPlanned u goals (Plan p w) = Plans u goals (plan_text u p)
IsPlanned u goals (Refusal r) = Refuses u goals (refusal_lines u r.pairs.members r.lacks)

abbrev pub IsOfPlan : plans.Plan → Planned → Type 0
IsOfPlan plan (Plan p w) = p ≡ plan
IsOfPlan plan (Refusal r) = ⊥

-- its numbers are the universe's, and each action waits for these
pub record HasText (u : Universe) (p : plans.Plan) (w : WaitLists) : Type 0 where
  pub numbers : All (IsOf u) p.actions
  pub dups : All (λ d. d.pair < pair_count u) p.dups
  pub waits : AreWaits p.actions w
  pub few : length p.actions < 2 ^ 32 - 1

abbrev pub IsPrintable : Universe → Planned → Type 0
IsPrintable u (Plan p w) = HasText u p w
IsPrintable u (Refusal r) = (r.pairs.size ≡ pair_count u) × IsWordable u r.lacks
