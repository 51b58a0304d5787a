-- What is said of a plan whose dups are audited.
--     audit_line u plan a, audit_status a      the line of an answer on this plan, and its status
--     NamesPairOf u a      the pair of the answer is the universe's
--     AuditedFor u g plan after lines status      the one line is that of the answer that is true of the plan, with these numbers behind its actions, and the pairs g
--     TellsLacking u goals lines status      the one line is that of the first goal that the attainable pairs lack
--     Audited u goals plan after lines status      the first for the pairs for the goals, where some actions attain these, and else the second
use Rattle.std.specs.Prelude.{◌≡◌, ◌⊎◌, ◌<◌, ℕ, List, [], ◌∷◌, ◌++◌, length, codes, decimal, ⊤}
use Rattle.metis_audit.specs.Terms.{IsAnswer}
use Rattle.metis_audit.specs.declared.answers.Answer.{Answer}
use Rattle.metis_audit.specs.declared.answers.Answer.TheVariants.{Justified, NotAttained, NoCycle, Count, Path, Loose, After}
use Rattle.metis_ids.specs.Terms.{Plan}
use Rattle.metis_choice.specs.Terms.{ArePairsFor}
use Rattle.metis_ids.specs.declared.goals.Goal.{Goal}
use Rattle.metis_universe.specs.Terms.{AttainsGoals, GoalRefusal, IsAttainedSet, Universe, goal_word, pair_count, pair_word}
use Rattle.metis_commands.specs.GoalLine.{word_line}
use Rattle.metis_output.specs.declared.status.Status.{Status}
use Rattle.metis_output.specs.declared.status.Status.TheVariants.{Done, No}
use Rattle.metis_output.specs.Terms.{number_line}

abbrev pub justified_line : ℕ → ℕ → List ℕ
justified_line instances dups = codes "justified instances " ++ (decimal instances ++ (codes " dups " ++ (decimal dups ++ codes "\n")))

abbrev pub count_line : ℕ → ℕ → List ℕ
count_line have want = codes "count have " ++ (decimal have ++ (codes " want " ++ (decimal want ++ codes "\n")))

abbrev pub audit_line : Universe → Plan → Answer → List ℕ
audit_line u plan Justified = justified_line plan.instances (length plan.dups)
audit_line u plan (NotAttained p) = word_line (codes "notattained") (pair_word u p)
audit_line u plan (NoCycle k) = number_line (codes "nocycle") k
audit_line u plan (Count have want) = count_line have want
audit_line u plan (Path l) = number_line (codes "path") l
audit_line u plan (Loose k) = number_line (codes "loose") k
audit_line u plan (After k) = number_line (codes "after") k

abbrev pub audit_status : Answer → Status
audit_status Justified = Done
audit_status _ = No

abbrev pub NamesPairOf : Universe → Answer → Type 0
NamesPairOf u (NotAttained p) = p < pair_count u
NamesPairOf u _ = ⊤

pub record AuditedFor (u : Universe) (g : List ℕ) (plan : Plan) (after : List (List ℕ)) (lines : List (List ℕ)) (status : Status) : Type 0 where
  pub answer : Answer
  pub is_true : IsAnswer u g plan after answer
  pub told : lines ≡ audit_line u plan answer ∷ []
  pub is : status ≡ audit_status answer

pub record TellsLacking (u : Universe) (goals : List Goal) (lines : List (List ℕ)) (status : Status) : Type 0 where
  pub unattained : AttainsGoals u goals → ⊥
  pub set : List ℕ
  pub all : IsAttainedSet u set
  pub lacking : Goal
  pub refusal : GoalRefusal u goals set lacking
  pub told : lines ≡ word_line (codes "notattained") (goal_word u lacking) ∷ []
  pub is : status ≡ No

pub record AuditedGoals (u : Universe) (goals : List Goal) (plan : Plan) (after : List (List ℕ)) (lines : List (List ℕ)) (status : Status) : Type 0 where
  pub attains : AttainsGoals u goals
  pub pairs : List ℕ
  pub resolved : ArePairsFor u goals pairs
  pub for_pairs : AuditedFor u pairs plan after lines status

abbrev pub Audited : Universe → List Goal → Plan → List (List ℕ) → List (List ℕ) → Status → Type 0
Audited u goals plan after lines status = AuditedGoals u goals plan after lines status ⊎ TellsLacking u goals lines status
