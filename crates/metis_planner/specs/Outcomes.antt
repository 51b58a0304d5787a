-- What is said of the planner's answer. Where memory ran out, nothing is.
--     IsPlanWhere P result      it is a plan exactly where P holds
--     IsLean u n g      n is at most the attainable pairs, times the greatest demand, and the targets g together
--     EventBelow n e      its line and its step are below n
--     IfPlan result P      P holds of the plan, where it is one
--     IfClosed result P      P holds of the set and of the target that it lacks, where it is no plan
use Rattle.std.specs.Prelude.{ℕ, ◌+◌, ◌*◌, ◌<◌, ◌≤◌, List, length, Bool, true, false, ⊤, Result, Ok, Err}
use Rattle.std.specs.Bool.{Decides}
use Rattle.metis_ids.specs.Terms.{PairSet, Plan}
use Rattle.metis_ids.specs.declared.events.Event.{Event}
use Rattle.metis_ids.specs.declared.events.Event.TheVariants.{At, End}
use Rattle.metis_ids.specs.declared.no_memory.NoMemory.{NoMemory}
use Rattle.metis_universe.specs.Terms.{IsAttainedSet, Universe, greatest_demand}
use Rattle.metis_planner.specs.declared.outcome.Outcome.{Outcome}
use Rattle.metis_planner.specs.declared.outcome.Outcome.TheVariants as outcome

pub record IsLean (u : Universe) (n : ℕ) (g : List ℕ) : Type 0 where
  pub attained : List ℕ
  pub all : IsAttainedSet u attained
  pub few : n ≤ length attained * greatest_demand u + length g

abbrev pub EventBelow : ℕ → Event → Type 0
EventBelow n (At l j) = (l < n) × (j < n)
EventBelow n End = ⊤

abbrev pub is_plan : Outcome → Bool
is_plan (outcome.Plan plan) = true
is_plan (outcome.Closed set lacking) = false

abbrev pub IsPlanWhere : Type 0 → Result Outcome NoMemory → Type 0
IsPlanWhere P (Ok o) = Decides (is_plan o) P
IsPlanWhere P (Err NoMemory) = ⊤

abbrev pub IfPlan : Result Outcome NoMemory → (Plan → Type 0) → Type 0
IfPlan (Ok (outcome.Plan plan)) P = P plan
IfPlan (Ok (outcome.Closed set lacking)) P = ⊤
IfPlan (Err NoMemory) P = ⊤

abbrev pub IfClosed : Result Outcome NoMemory → (PairSet → ℕ → Type 0) → Type 0
IfClosed (Ok (outcome.Plan plan)) P = ⊤
IfClosed (Ok (outcome.Closed set lacking)) P = P set lacking
IfClosed (Err NoMemory) P = ⊤
