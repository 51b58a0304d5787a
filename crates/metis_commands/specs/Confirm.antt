-- What is said of an explanation that is checked.
--     confirmation_line u v, confirmation_status v      the line of a verdict on lines, and its status
--     IsSayable u v      the goal that the verdict names, if it names one, is the universe's, and the place is in range
--     Confirms u goals why lines status      the one line is that of the verdict on these lines as an explanation for the goals
use Rattle.std.specs.Prelude.{◌≡◌, ℕ, ◌+◌, ◌<◌, ◌^◌, List, [], ◌∷◌, ◌++◌, codes, decimal}
use Rattle.metis_ids.specs.declared.goals.Goal.{Goal}
use Rattle.metis_universe.specs.Terms.{AttainsGoals, IsGoalOf, Universe, goal_word}
use Rattle.metis_why.specs.Terms.{verdict}
use Rattle.metis_why.specs.declared.confirming.Confirmation.{Confirmation}
use Rattle.metis_why.specs.declared.confirming.Confirmation.TheVariants as confirmation
use Rattle.metis_why.specs.declared.reason.Line.{Line}
use Rattle.metis_commands.specs.GoalLine.{word_line}
use Rattle.metis_output.specs.declared.status.Status.{Status}
use Rattle.metis_output.specs.declared.status.Status.TheVariants.{Done, No}

abbrev pub unfounded_line : ℕ → List ℕ
unfounded_line n = codes "unfounded line " ++ (decimal n ++ codes "\n")

-- the lines of the explanation begin with the fourth of its text
abbrev pub confirmation_line : Universe → Confirmation → List ℕ
confirmation_line u (confirmation.Confirmed g) = word_line (codes "confirmed lacks") (goal_word u g)
confirmation_line u (confirmation.Unfounded k) = unfounded_line (k + 4)
confirmation_line u confirmation.LacksNone = codes "lacksnone\n"

abbrev pub confirmation_status : Confirmation → Status
confirmation_status (confirmation.Confirmed g) = Done
confirmation_status _ = No

abbrev pub IsSayable : Universe → Confirmation → Type 0
IsSayable u (confirmation.Confirmed g) = IsGoalOf u g
IsSayable u (confirmation.Unfounded k) = k < 2 ^ 32
IsSayable u confirmation.LacksNone = Unit {0}

-- Where a goal is confirmed, no list of actions attains the goals.
pub record Confirms (u : Universe) (goals : List Goal) (why : List Line) (lines : List (List ℕ)) (status : Status) : Type 0 where
  pub unattained : (g : Goal) → verdict u why goals ≡ confirmation.Confirmed g → AttainsGoals u goals → ⊥
  pub told : lines ≡ confirmation_line u (verdict u why goals) ∷ []
  pub is : status ≡ confirmation_status (verdict u why goals)
