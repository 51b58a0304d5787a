-- Where nothing stands and nothing is wished, a reconfiguration is the plan for the goals.
use Rattle.std.proofs.Common.{◌≡◌, ℕ, List, [], ◌∷◌, refl, ◌∙◌, append-nil}
use Rattle.std.specs.List.{filter, filter_map}
use Rattle.std.proofs.lemmas.Bool.{false≢true}
use Rattle.metis_choice.specs.Terms.{ArePairsFor}
use Rattle.metis_ids.specs.declared.goals.Goal.{Goal}
use Rattle.metis_planner.specs.Terms.{IsPlanFor}
use Rattle.metis_rollout.specs.Terms.{all_go, removal, renumbered}
use Rattle.metis_universe.specs.Terms.{AttainsGoals, IsSteadfastRun, IsTable, Universe, all_pairs, empty}
use Rattle.metis_wishes.specs.Terms.{is_avoided}
use Rattle.metis_reconfigure.specs.Terms.{Reconfiguration, pair_for, reconfigured}
use Rattle.metis_reconfigure.proofs.InOrder.{planned_in_order, same_numbers}
use Rattle.metis_reconfigure.proofs.Rollouts.{is_rollout, pairs_for, planned_over_all}

nothing_steady : (u : Universe) → IsSteadfastRun u []
nothing_steady u = record { run = tt; steadfast = refl }

nothing_removed : (u : Universe) (name : ℕ → ℕ) → removal u all_go name empty ≡ []
nothing_removed u name = refl

unavoided : (u : Universe) (ps : List ℕ) → filter (is_avoided u []) ps ≡ []
unavoided u [] = refl
unavoided u (p ∷ ps) = unavoided u ps

pub planned_for : (u : Universe) (goals : List Goal) (r : Reconfiguration u [] [] goals) → IsTable u → AttainsGoals u goals
    → let g = filter_map (pair_for u) goals in ArePairsFor u goals g × IsPlanFor u g r.plan
planned_for u goals r table attained =
    (pairs_for u table.universe goals attained, planned_over_all u table.universe [] [] (nothing_steady u) goals r (unavoided u (all_pairs u)) refl refl (λ z h. absurd (false≢true h)))

pub is_the_plan : (u : Universe) (goals : List Goal) (r : Reconfiguration u [] [] goals) → IsTable u → reconfigured r ≡ r.plan.actions
is_the_plan u goals r table =
    let g = filter_map (pair_for u) goals in
    let p = planned_over_all u table.universe [] [] (nothing_steady u) goals r (unavoided u (all_pairs u)) refl refl (λ z h. absurd (false≢true h)) in
    is_rollout u table.universe [] [] (nothing_steady u) goals r (unavoided u (all_pairs u)) refl refl (λ z h. absurd (false≢true h))
    ∙ append-nil (renumbered [] r.plan.actions)
    ∙ same_numbers u r.plan.actions p.run (planned_in_order u g r.plan table (r.plan.actions, p.run.run, p.holds) p.rounds)
