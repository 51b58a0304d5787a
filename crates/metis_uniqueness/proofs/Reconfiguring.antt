-- A reconfiguration is one list of actions.
use Rattle.std.proofs.Common.{◌≡◌, ℕ, not, List, ◌++◌, refl, ◌∙◌, subst}
use Rattle.metis_ids.specs.declared.actions.Action.{Action}
use Rattle.metis_ids.specs.declared.goals.Goal.{Goal}
use Rattle.metis_universe.specs.Terms.{Config, Universe}
use Rattle.metis_completion.specs.Terms.{completed}
use Rattle.metis_planner.proofs.Unique.{one_plan}
use Rattle.metis_planner.specs.Terms.{IsByRounds}
use Rattle.metis_rollout.specs.Terms.{fresh_name, removal, renumbered, scaffold_name}
use Rattle.metis_wishes.specs.Terms.{rebound}
use Rattle.metis_wishes.specs.declared.wish.Wish.{Wish}
use Rattle.metis_reconfigure.specs.Terms.{AreLeaving, AreStaying, Reconfiguration, before_removal, dependents, fresh_actions, left_by, left_to_plan, rebinds, rebound_actions, reconfigured, roots, targets}
use Rattle.metis_uniqueness.proofs.Alike.{AreAlike, reached_alike}
use Rattle.metis_uniqueness.proofs.Leaving.{given_same, left_same, rebinds_same, targets_same}
use Rattle.metis_uniqueness.proofs.Staying.{staying_alike}

pub leaving_alike : (u : Universe) (wishes : List Wish) (c : Config) (l m : List ℕ) → AreLeaving u wishes c l → AreLeaving u wishes c m → AreAlike l m
leaving_alike u wishes c l m a b = reached_alike (roots u wishes c) (roots u wishes c) (dependents u c (rebound wishes)) l m (λ z. refl) a b

module _ (u : Universe) (wishes : List Wish) (old : List Action) (goals : List Goal) (r s : Reconfiguration u wishes old goals) where
  abbrev c : Config
  c = left_by u old

  leaves : AreAlike r.leaving s.leaving
  leaves = leaving_alike u wishes c r.leaving s.leaving r.leave s.leave

  aims : targets u wishes c r.leaving goals ≡ targets u wishes c s.leaving goals
  aims = targets_same u wishes c r.leaving s.leaving leaves goals

  plans : r.plan ≡ s.plan
  plans = one_plan (left_to_plan u wishes c s.leaving) (targets u wishes c s.leaving goals) r.plan s.plan
      (subst (λ (v : Universe). IsByRounds v (targets u wishes c s.leaving goals) r.plan) (left_same u wishes c r.leaving s.leaving leaves)
      (subst (λ (ts : List ℕ). IsByRounds (left_to_plan u wishes c r.leaving) ts r.plan) aims r.planned.rounds))
      s.planned.rounds

  fresh_same : fresh_actions u old r.leaving r.plan ≡ fresh_actions u old s.leaving s.plan
  fresh_same = λ i. completed u (given_same u wishes c r.leaving s.leaving leaves i) (renumbered old (plans i).actions)

  rebound_same : rebound_actions u wishes old r.leaving (targets u wishes c r.leaving goals) r.plan ≡ rebound_actions u wishes old s.leaving (targets u wishes c s.leaving goals) s.plan
  rebound_same =
      (λ i. rebinds u wishes c r.leaving (aims i) (fresh_name old (plans i).actions))
      ∙ rebinds_same u wishes c r.leaving s.leaving leaves (targets u wishes c s.leaving goals) (fresh_name old s.plan.actions)

  before_same : before_removal r ≡ before_removal s
  before_same = λ i. old ++ (fresh_same i ++ rebound_same i)

  stays : AreAlike r.staying s.staying
  stays = staying_alike u wishes c (left_by u (before_removal s)) r.leaving s.leaving leaves goals r.staying s.staying
      (subst (λ (xs : List Action). AreStaying u wishes c (left_by u xs) r.leaving goals r.staying) before_same r.stay) s.stay

  pub reconfigured_same : reconfigured r ≡ reconfigured s
  reconfigured_same = λ i. before_same i ++ removal u (λ z. not (stays z i)) (scaffold_name old (plans i).actions) (left_by u (before_same i))
