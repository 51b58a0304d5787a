-- What is said of a refusal that is checked.
--     judgement_line u v, judgement_status v      the line of a verdict on a set of pairs, and its status
--     Judged u goals set lines status      the one line is that of the verdict that is true of the set as a refusal of the goals
use Rattle.std.specs.Prelude.{◌≡◌, ℕ, List, [], ◌∷◌, ◌++◌, codes}
use Rattle.metis_refusal.specs.Terms.{Tells}
use Rattle.metis_refusal.specs.declared.verdict.Verdict2.{Verdict2}
use Rattle.metis_refusal.specs.declared.verdict.Verdict2.TheVariants.{Closed, NotFree, Open, LacksNone}
use Rattle.metis_ids.specs.declared.goals.Goal.{Goal}
use Rattle.metis_universe.specs.Terms.{Universe, goal_word, pair_word}
use Rattle.metis_output.specs.declared.status.Status.{Status}
use Rattle.metis_output.specs.declared.status.Status.TheVariants.{Done, No}
use Rattle.metis_commands.specs.GoalLine.{word_line}

abbrev pub open_line : List ℕ → List ℕ → List ℕ
open_line from to = codes "open " ++ (from ++ (codes " " ++ (to ++ codes "\n")))

abbrev pub judgement_line : Universe → Verdict2 → List ℕ
judgement_line u (Closed g) = word_line (codes "closed lacks") (goal_word u g)
judgement_line u (NotFree p) = word_line (codes "notfree") (pair_word u p)
judgement_line u (Open p q) = open_line (pair_word u p) (pair_word u q)
judgement_line u LacksNone = codes "lacksnone\n"

abbrev pub judgement_status : Verdict2 → Status
judgement_status (Closed g) = Done
judgement_status _ = No

pub record Judged (u : Universe) (goals : List Goal) (set : List ℕ) (lines : List (List ℕ)) (status : Status) : Type 0 where
  pub verdict : Verdict2
  pub tells : Tells u set goals verdict
  pub told : lines ≡ judgement_line u verdict ∷ []
  pub is : status ≡ judgement_status verdict
