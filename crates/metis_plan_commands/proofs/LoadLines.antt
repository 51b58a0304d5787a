-- The plan that rounds come to for the targets of a generated universe is good, and its line is a line.
use Rattle.std.proofs.Common.{◌≡◌, ℕ, List, length, refl, sym, ◌∙◌, subst}
use Rattle.std.specs.List.{All}
use Rattle.metis_ids.specs.Terms.{Plan}
use Rattle.metis_ids.specs.declared.actions.Action.{Action}
use Rattle.metis_universe.specs.Terms.{Holds, IsOf, IsRun, IsUniverse, Universe, after_all, empty, pair_count, pair_goals}
use Rattle.metis_universe.proofs.Served.{pairs_held}
use Rattle.metis_replay.proofs.Verdicts.{exact}
use Rattle.metis_replay.specs.Terms.{Tells}
use Rattle.metis_replay.specs.declared.verdict.Verdict.{Verdict}
use Rattle.metis_replay.specs.declared.verdict.Verdict.TheVariants.{Good}
use Rattle.metis_gen.specs.Terms.{generated, generated_targets}
use Rattle.metis_output.specs.Terms.{IsJust}
use Rattle.metis_plan_commands.specs.Terms.{Loaded, Loads, counts_line, load_line}
use Rattle.metis_output.specs.declared.status.Status.{Status}
use Rattle.metis_output.specs.declared.status.Status.TheVariants.{Done}
use Rattle.metis_planner.specs.Terms.{IsByRounds}
use Rattle.std.specs.Prelude.{codes}
use Rattle.metis_output.proofs.LineWords.{number_then}
use Rattle.metis_outside.proofs.Feeds.{IsLine-from}
use Rattle.metis_outside.specs.Terms.{IsLine}

-- the verdict on a run that holds the targets
pub good_alone : (u : Universe) (actions : List Action) (g : List ℕ) (v : Verdict) → IsUniverse u → All (IsOf u) actions → IsRun u empty actions → Holds (after_all u empty actions) g → Tells u actions (pair_goals g) v → v ≡ Good
good_alone u actions g v k of runs holds tells = sym ((exact u actions (pair_goals g) v k of).1 tells) ∙ (exact u actions (pair_goals g) Good k of).1 (runs, (pairs_held u (after_all u empty actions) g).1 holds)

pub loaded_by : (n : ℕ) (u : Universe) (g : List ℕ) (plan : Plan) → u ≡ generated n → g ≡ generated_targets n → IsByRounds u g plan → ((other : Plan) → IsByRounds u g other → other ≡ plan)
    → IsRun u empty plan.actions → Holds (after_all u empty plan.actions) g → (lines : List (List ℕ)) (status : Status) → IsJust (load_line n u g plan) Done lines status → Loaded n lines status
loaded_by n u g plan made aimed rounds alone runs holds lines status just =
    let P : Universe → List ℕ → Type 0 = λ v h. Loads n v h lines status in
    subst (λ v. P v (generated_targets n)) made (subst (P u) aimed (record { plan = plan; rounds = rounds; alone = alone; runs = runs; holds = holds; told = just.0; is = just.1 }))

IsLine-counts_line : (n pairs targets instances actions dups : ℕ) → IsLine (counts_line n pairs targets instances actions dups)
IsLine-counts_line n pairs targets instances actions dups =
    number_then (codes "load ") n _ refl (number_then (codes " pairs ") pairs _ refl (number_then (codes " targets ") targets _ refl
    (number_then (codes " instances ") instances _ refl (number_then (codes " actions ") actions _ refl
    (number_then (codes " dups ") dups (codes " good\n") refl (IsLine-from (codes " good") refl))))))

pub IsLine-load_line : (n : ℕ) (u : Universe) (g : List ℕ) (plan : Plan) → IsLine (load_line n u g plan)
IsLine-load_line n u g plan = IsLine-counts_line n (pair_count u) (length g) plan.instances (length plan.actions) (length plan.dups)
