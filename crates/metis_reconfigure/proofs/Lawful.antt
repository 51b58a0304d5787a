-- A reconfiguration is a steadfast run, and ends in what stays.
use Rattle.std.proofs.Common.{◌≡◌, ℕ, false, ◌||◌, List, [], ◌∷◌, ◌++◌, map, refl, ap, ◌∙◌}
use Rattle.std.proofs.lemmas.Bool.{false_from_ne_true, or_from}
use Rattle.std.proofs.lemmas.List.Folds.{list_any-append}
use Rattle.metis_ids.specs.declared.actions.Action.{Action}
use Rattle.metis_ids.specs.declared.goals.Goal.{Goal}
use Rattle.metis_universe.specs.Terms.{Binding, Config, IsSteadfastRun, IsUniverse, Universe, is_new}
use Rattle.metis_completion.proofs.Completion.{made_completed}
use Rattle.metis_layers.proofs.Going.{GoesOn}
use Rattle.metis_rollout.proofs.Going.{going_from_steady, steady_from_going}
use Rattle.metis_rollout.proofs.Removal.{Removed}
use Rattle.metis_rollout.proofs.Whole.{fresh_other, removed, scaffold_free}
use Rattle.metis_rollout.specs.Terms.{AreFree, IsWithout, MayGo, all_but, bind, is_made, removal, renumbered, scaffold_name}
use Rattle.metis_wishes.specs.declared.wish.Wish.{Wish}
use Rattle.metis_reconfigure.specs.Terms.{IsAnswerable, Reconfiguration, before_removal, fresh_actions, given, left_by, left_to_plan, rebound_actions, reconfigured, targets}
use Rattle.metis_reconfigure.proofs.Joined.{joined_steady, name, ties}
use Rattle.metis_reconfigure.proofs.Rebound.{rebinds_are}
use Rattle.metis_reconfigure.proofs.Served.{staying_served}

binds_make_none : (bs : List Binding) (x : ℕ) → is_made (map bind bs) x ≡ false
binds_make_none [] x = refl
binds_make_none (b ∷ bs) x = binds_make_none bs x

module _ (u : Universe) (k : IsUniverse u) (wishes : List Wish) (old : List Action) (s : IsSteadfastRun u old) (goals : List Goal) (r : Reconfiguration u wishes old goals) where
  abbrev c : Config
  c = left_by u old

  abbrev ts : List ℕ
  ts = targets u wishes c r.leaving goals

  pub steady_before : IsSteadfastRun u (before_removal r)
  steady_before = joined_steady u k wishes old s r.leaving r.leave ts r.plan r.planned

  -- ---- the scaffold's names

  abbrev label : ℕ → ℕ
  label = scaffold_name old r.plan.actions

  makes : (x : ℕ) → is_made (before_removal r) x ≡ (is_made old x || (is_made (renumbered old r.plan.actions) x || false))
  makes x =
      list_any-append (is_new x) old (fresh_actions u old r.leaving r.plan ++ rebound_actions u wishes old r.leaving ts r.plan)
      ∙ ap (λ b. is_made old x || b) (list_any-append (is_new x) (fresh_actions u old r.leaving r.plan) (rebound_actions u wishes old r.leaving ts r.plan)
      ∙ (λ i. made_completed u (given u c r.leaving) (renumbered old r.plan.actions) x i || none i)) where
        none : is_made (rebound_actions u wishes old r.leaving ts r.plan) x ≡ false
        none = ap (λ l. is_made l x) (rebinds_are u wishes c r.leaving ts (name u k wishes old s r.leaving r.leave ts r.plan r.planned))
            ∙ binds_make_none (ties u k wishes old s r.leaving r.leave ts r.plan r.planned) x

  plan_goes : GoesOn (left_to_plan u wishes c r.leaving) [] r.plan.actions
  plan_goes = going_from_steady (left_to_plan u wishes c r.leaving) r.plan.actions r.planned.run

  pub labels_free : AreFree (before_removal r) label
  labels_free = record {
    apart = (scaffold_free old r.plan.actions).apart;
    free = λ n. makes (label n) ∙ or_from (is_made old (label n)) _ ((scaffold_free old r.plan.actions).free n)
        (or_from (is_made (renumbered old r.plan.actions) (label n)) false
        (false_from_ne_true _ (λ h. fresh_other old r.plan.actions (left_to_plan u wishes c r.leaving) plan_goes (label n) h (n, refl))) refl);
  }

  -- ---- the whole

  module _ (ans : IsAnswerable u wishes old goals r.leaving) where
    pub may_go_all : MayGo u (all_but r.staying) (left_by u (before_removal r))
    may_go_all = staying_served u k wishes old s goals r.leaving r.leave ans r.plan r.planned r.staying r.stay

    taken_away : Removed u (all_but r.staying) label (before_removal r) (removal u (all_but r.staying) label (left_by u (before_removal r)))
    taken_away = removed u k (all_but r.staying) label (before_removal r) steady_before may_go_all labels_free

    pub steady_whole : IsSteadfastRun u (reconfigured r)
    steady_whole = steady_from_going u (reconfigured r) taken_away.goes_on

    pub ends_in_staying : IsWithout u (all_but r.staying) (left_by u (before_removal r)) (left_by u (reconfigured r))
    ends_in_staying = taken_away.without

pub is_a_run : (u : Universe) (wishes : List Wish) (old : List Action) (goals : List Goal) (r : Reconfiguration u wishes old goals) → IsUniverse u → IsSteadfastRun u old
    → IsAnswerable u wishes old goals r.leaving → IsSteadfastRun u (reconfigured r)
is_a_run u wishes old goals r k s ans = steady_whole u k wishes old s goals r ans

pub ends_in : (u : Universe) (wishes : List Wish) (old : List Action) (goals : List Goal) (r : Reconfiguration u wishes old goals) → IsUniverse u → IsSteadfastRun u old
    → IsAnswerable u wishes old goals r.leaving → IsWithout u (all_but r.staying) (left_by u (before_removal r)) (left_by u (reconfigured r))
ends_in u wishes old goals r k s ans = ends_in_staying u k wishes old s goals r ans
