-- What is said of a plan for a generated universe.
--     counts_line n .., load_line n u g plan      the size, and so many pairs, targets, instances, actions and dups;  as many as the universe u, the targets g and the plan have
--     IsGood u g actions good      whether the verdict on the actions and the targets is good
--     Loads n u g lines status      the plan that rounds come to is good, and the one line has its counts
--     Loaded n lines status      the same for the generated universe of size n and its targets
use Rattle.std.specs.Prelude.{◌≡◌, ℕ, Bool, true, false, List, [], ◌∷◌, ◌++◌, length, codes, decimal}
use Rattle.metis_ids.specs.Terms.{Plan}
use Rattle.metis_ids.specs.declared.actions.Action.{Action}
use Rattle.metis_universe.specs.Terms.{Holds, IsRun, Universe, after_all, empty, pair_count, pair_goals}
use Rattle.metis_replay.specs.Terms.{Tells}
use Rattle.metis_replay.specs.declared.verdict.Verdict.{Verdict}
use Rattle.metis_replay.specs.declared.verdict.Verdict.TheVariants.{Good, Bad, Missing}
use Rattle.metis_gen.specs.Terms.{generated, generated_targets}
use Rattle.metis_planner.specs.Terms.{IsByRounds}
use Rattle.metis_output.specs.declared.status.Status.{Status}
use Rattle.metis_output.specs.declared.status.Status.TheVariants.{Done}

abbrev pub counts_line : ℕ → ℕ → ℕ → ℕ → ℕ → ℕ → List ℕ
counts_line n pairs targets instances actions dups =
    codes "load " ++ (decimal n ++ (codes " pairs " ++ (decimal pairs ++ (codes " targets " ++ (decimal targets
    ++ (codes " instances " ++ (decimal instances ++ (codes " actions " ++ (decimal actions ++ (codes " dups " ++ (decimal dups ++ codes " good\n")))))))))))

abbrev pub load_line : ℕ → Universe → List ℕ → Plan → List ℕ
load_line n u g plan = counts_line n (pair_count u) (length g) plan.instances (length plan.actions) (length plan.dups)

abbrev pub is_good : Verdict → Bool
is_good Good = true
is_good (Bad k f) = false
is_good (Missing g have want) = false

-- whether the verdict that is true of the actions and the targets g is good
abbrev pub IsGood : Universe → List ℕ → List Action → Bool → Type 0
IsGood u g actions good = (verdict : Verdict) × Tells u actions (pair_goals g) verdict × (good ≡ is_good verdict)

-- its actions are a run from the empty configuration that holds the targets, and there is no other such plan
pub record Loads (n : ℕ) (u : Universe) (g : List ℕ) (lines : List (List ℕ)) (status : Status) : Type 0 where
  pub plan : Plan
  pub rounds : IsByRounds u g plan
  pub alone : (other : Plan) → IsByRounds u g other → other ≡ plan
  pub runs : IsRun u empty plan.actions
  pub holds : Holds (after_all u empty plan.actions) g
  pub told : lines ≡ load_line n u g plan ∷ []
  pub is : status ≡ Done

abbrev pub Loaded : ℕ → List (List ℕ) → Status → Type 0
Loaded n lines status = Loads n (generated n) (generated_targets n) lines status
