-- What is said of a reconfiguration from a plan's actions to goals, by wishes.
--     KeepsTheKept r      in each order that keeps the waits, after the old actions, each old instance that stays is in its pair, and each old binding that is left at the end stands
--     NeverLacksEither r      in an order that keeps the waits, in which nothing that the old actions leave is taken away before all that is new stands, at each moment after them, all that they leave stands, or all that stands in the end does
--     GoesOnToTheEnd r      each order of the old actions that keeps their waits goes on to a guarded one of all actions
--     IsSound r      what is promised of a reconfiguration that can be answered
--     Reconfigures u goals old wishes lines      some actions attain the goals, and the lines are those of such a reconfiguration, in which each action names the actions of other instances that it waits for
--     obstacle_line u why, IsObstacleIn u why      the line of an obstacle;  the goal or the port that it names is the universe's
--     IsBarred u goals old wishes lines      some actions attain the goals, and the one line is that of the first obstacle
--     TellsAttempt u made lines status, IsTellable u made      the lines are those of what was made;  it has such lines
--     HasAttempted u goals old wishes made      it is such a reconfiguration, or the first obstacle, or a refusal of the goals
--     IsAttempted u goals old wishes made      the same from a steadfast run, or what keeps the actions from being one
--     PutsReconfiguration u goals old wishes lines status      the actions are a steadfast run, and the lines are those of the reconfiguration, or of the first obstacle, where some actions attain the goals, and else of a refusal
--     Reconfigured u goals old wishes lines status      that, or the one line is that of the first action that cannot be done, or of the first that is not steadfast
use Rattle.std.specs.Prelude.{◌≡◌, ◌⊎◌, ◌↔◌, ◌<◌, ℕ, List, [], ◌∷◌, ◌++◌, codes, decimal, length, Result, Ok, Err, None, IsSome, IsTrue, ⊤, ◌≤◌, ◌^◌}
use Rattle.std.specs.List.{All}
use Rattle.metis_ids.specs.declared.actions.Action.{Action}
use Rattle.metis_ids.specs.declared.goals.Goal.{Goal}
use Rattle.metis_output.specs.declared.status.Status.{Status}
use Rattle.metis_output.specs.declared.status.Status.TheVariants.{Done, No}
use Rattle.metis_plan_commands.specs.Old.{IsNumbered}
use Rattle.metis_plan_commands.specs.Plan.{Refuses, others, plan_of, plan_text}
use Rattle.metis_plan_commands.specs.Planned.{IsPrintable, TellsPlanned}
use Rattle.metis_plan_commands.specs.declared.planned.Planned.TheVariants as planned
use Rattle.metis_plan_commands.specs.declared.reconfigure.Attempt.{Attempt}
use Rattle.metis_plan_commands.specs.declared.reconfigure.Attempt.TheVariants.{Planned, Barred}
use Rattle.metis_reconfigure.specs.Terms.{IsAnswered, IsObstacle, IsTidied, LeavesAlone, Reconfiguration, TakesOldLate, after_old, at_border, at_end, before_removal, left_by, reconfigured, wished}
use Rattle.metis_reconfigure.specs.declared.answer.Obstacle.{Obstacle}
use Rattle.metis_reconfigure.specs.declared.answer.Obstacle.TheVariants as obstacle
use Rattle.metis_rollout.specs.Terms.{HasEach, IsGuardedAt, IsWithout, KeepsStanding, StandsIn, all_but}
use Rattle.metis_output.specs.Terms.{number_line}
use Rattle.metis_steady.specs.Terms.{HasBadAction, HasLooseAction, IsUnsteady}
use Rattle.metis_steady.specs.declared.steady.Unsteady.{Unsteady}
use Rattle.metis_text.specs.Terms.{IsWellFormed, refusal_lines}
use Rattle.metis_universe.specs.Terms.{AttainsGoals, HoldsGoals, IsGoalOf, IsKept, IsSteadfastRun, IsTable, Universe, goal_word, has, is_complete, pair_of, picked, port_count, port_name_of}
use Rattle.metis_wishes.specs.Terms.{rebound}
use Rattle.metis_wishes.specs.declared.wish.Wish.{Wish}

-- ---- the reconfiguration

module _ {u : Universe} {wishes : List Wish} {old : List Action} {goals : List Goal} (r : Reconfiguration u wishes old goals) where
  abbrev pub KeepsTheKept : Type 0
  KeepsTheKept =
      (ks : List ℕ) → IsKept (reconfigured r) ks → HasEach 0 (length old) ks
      → KeepsStanding (all_but r.staying) (left_by u old) (at_end r) (left_by u (picked (reconfigured r) ks))

  -- all that is new stands once the last action before the removal is done
  abbrev pub NeverLacksEither : Type 0
  NeverLacksEither =
      (front rest : List ℕ) → IsKept (reconfigured r) (front ++ rest)
      → TakesOldLate r (front ++ rest) → HasEach 0 (length old) front
      → let c = left_by u (picked (reconfigured r) front) in StandsIn (left_by u old) c ⊎ StandsIn (at_end r) c

  abbrev pub GoesOnToTheEnd : Type 0
  GoesOnToTheEnd =
      (ks : List ℕ) → IsKept old ks
      → (more : List ℕ) × IsKept (reconfigured r) (ks ++ more) × IsTrue (is_complete (reconfigured r) (ks ++ more))
      × IsGuardedAt 0 (length (before_removal r)) (ks ++ more)

-- It is a steadfast run too, which begins with the old actions and ends with every one of the goals. In the end stand exactly those that
-- stay, in their pairs and with the bindings that these require, and each for something that is wished or wanted. What is to stay by the
-- wishes is there in its old pair, and what leaves by them is not. The actions behind the old ones do nothing to an instance of theirs that
-- stays, but bind it where a wish says so, and end bindings that it does not require or that lead to what leaves. Carried out in any order
-- that keeps the waits, what stays never falls; and it never lacks both what was and what is to be where nothing of what was is taken away
-- before all that is new stands.
pub record IsSound {u : Universe} {wishes : List Wish} {old : List Action} {goals : List Goal} (r : Reconfiguration u wishes old goals) : Type 0 where
  pub steady : IsSteadfastRun u (reconfigured r)
  pub begins : reconfigured r ≡ old ++ after_old r
  pub holds : HoldsGoals u (at_end r) goals
  pub stays : (z : ℕ) → IsSome (pair_of (at_end r) z) ↔ IsTrue (has r.staying z)
  pub ends : IsWithout u (all_but r.staying) (at_border r) (at_end r)
  pub tidy : IsTidied u wishes old goals r (at_end r)
  pub is_as_wished : (z : ℕ) → IsTrue (has (wished wishes (left_by u old) r.leaving) z)
      → IsSome (pair_of (left_by u old) z) × (pair_of (at_end r) z ≡ pair_of (left_by u old) z)
  pub leaves : (z : ℕ) → IsTrue (has r.leaving z) → pair_of (at_end r) z ≡ None
  pub alone : All (LeavesAlone r) (after_old r)
  pub never_falls : KeepsTheKept r
  pub never_lacks : NeverLacksEither r
  pub goes_on : GoesOnToTheEnd r

-- where the old actions were read, what is printed is well formed, so that it is read again
pub record Reconfigures (u : Universe) (goals : List Goal) (old : List Action) (wishes : List Wish) (lines : List (List ℕ)) : Type 0 where
  pub attains : AttainsGoals u goals
  pub course : Reconfiguration u wishes old goals
  pub answered : IsAnswered u wishes old goals course
  pub sound : IsSound course
  pub formed : IsTable u → IsNumbered u old → length (rebound wishes) ≤ 2 ^ 16 → IsWellFormed u (plan_of (reconfigured course)) (others (reconfigured course))
  pub told : lines ≡ plan_text u (plan_of (reconfigured course))

-- ---- the first obstacle

abbrev pub kept_line : ℕ → ℕ → List ℕ
kept_line z y = codes "kept " ++ (decimal z ++ (codes " on " ++ (decimal y ++ codes "\n")))

abbrev pub unmet_line : ℕ → List ℕ → List ℕ
unmet_line z port = codes "unmet " ++ (decimal z ++ (codes " " ++ (port ++ codes "\n")))

abbrev pub obstacle_line : Universe → Obstacle → List ℕ
obstacle_line u (obstacle.Absent z) = number_line (codes "absent") z
obstacle_line u (obstacle.Kept z y) = kept_line z y
obstacle_line u (obstacle.Unavoidable g) = codes "unavoidable " ++ (goal_word u g ++ codes "\n")
obstacle_line u (obstacle.Unmet z r) = unmet_line z (port_name_of u r)
obstacle_line u (obstacle.Needs n) = number_line (codes "needs") n

abbrev pub IsObstacleIn : Universe → Obstacle → Type 0
IsObstacleIn u (obstacle.Unavoidable g) = IsGoalOf u g
IsObstacleIn u (obstacle.Unmet z r) = r < port_count u
IsObstacleIn u _ = ⊤

pub record IsBarred (u : Universe) (goals : List Goal) (old : List Action) (wishes : List Wish) (lines : List (List ℕ)) : Type 0 where
  pub attains : AttainsGoals u goals
  pub why : Obstacle
  pub first : IsObstacle u wishes (left_by u old) goals why
  pub told : lines ≡ obstacle_line u why ∷ []

-- ---- what is made

abbrev pub TellsAttempt : Universe → Attempt → List (List ℕ) → Status → Type 0
TellsAttempt u (Planned made) lines status = TellsPlanned u made lines status
TellsAttempt u (Barred why) lines status = (lines ≡ obstacle_line u why ∷ []) × (status ≡ No)

abbrev pub IsTellable : Universe → Attempt → Type 0
IsTellable u (Planned made) = IsPrintable u made
IsTellable u (Barred why) = IsObstacleIn u why

abbrev pub HasAttempted : Universe → List Goal → List Action → List Wish → Attempt → Type 0
HasAttempted u goals old wishes (Planned (planned.Plan p w)) = Reconfigures u goals old wishes (plan_text u p)
HasAttempted u goals old wishes (Planned (planned.Refusal r)) = Refuses u goals (refusal_lines u r.pairs.members r.lacks)
HasAttempted u goals old wishes (Barred why) = IsBarred u goals old wishes (obstacle_line u why ∷ [])

-- the same from actions that are a steadfast run, or what keeps them from being one
abbrev pub IsAttempted : Universe → List Goal → List Action → List Wish → Result Attempt Unsteady → Type 0
IsAttempted u goals old wishes (Ok made) = IsSteadfastRun u old × HasAttempted u goals old wishes made
IsAttempted u goals old wishes (Err why) = IsUnsteady u old why

-- ---- what is put

abbrev pub ReconfigurationAnswer : Universe → List Goal → List Action → List Wish → List (List ℕ) → Status → Type 0
ReconfigurationAnswer u goals old wishes lines status =
    ((status ≡ Done) × Reconfigures u goals old wishes lines)
    ⊎ (((status ≡ No) × IsBarred u goals old wishes lines) ⊎ ((status ≡ No) × Refuses u goals lines))

pub record PutsReconfiguration (u : Universe) (goals : List Goal) (old : List Action) (wishes : List Wish) (lines : List (List ℕ)) (status : Status) : Type 0 where
  pub steady : IsSteadfastRun u old
  pub answer : ReconfigurationAnswer u goals old wishes lines status

abbrev pub Reconfigured : Universe → List Goal → List Action → List Wish → List (List ℕ) → Status → Type 0
Reconfigured u goals old wishes lines status =
    HasBadAction u old lines status ⊎ (HasLooseAction u old lines status ⊎ PutsReconfiguration u goals old wishes lines status)
