-- A plan deploys its targets in any order that keeps its waits, by the laws of these orders.
use Rattle.std.proofs.Common.{◌≡◌, ◌≤◌, ◌+◌, ◌*◌, ℕ, List, length, inl, inr, subst}
use Rattle.std.specs.List.{count_by}
use Rattle.std.specs.Prelude.{IsTrue}
use Rattle.metis_choice.proofs.Resolving.{pairs_count, pairs_hold}
use Rattle.metis_choice.specs.Terms.{ArePairsFor}
use Rattle.metis_ids.specs.Terms.{makes}
use Rattle.metis_ids.specs.declared.actions.Action.{Action}
use Rattle.metis_ids.specs.declared.goals.Goal.{Goal}
use Rattle.metis_universe.specs.Terms.{IsKept, IsRun, Universe, after_all, empty, greatest_demand, is_complete, is_steadfast, numbers, picked}
use Rattle.metis_top.specs.Terms.{Deploys, DeploysOrRefuses, InAnyOrder}
use Rattle.metis_plan_commands.specs.Terms.{IsPlan, PlanAnswer, Plans}
use Rattle.metis_output.specs.declared.status.Status.{Status}

-- what is known of the orders of a list of actions that keep its waits
pub record OrderLaws : Type 0 where
  pub runs : (u : Universe) (actions : List Action) (ks : List ℕ) → IsRun u empty actions → IsTrue (is_steadfast u actions) → IsKept actions ks → IsRun u empty (picked actions ks)
  pub alike : (u : Universe) (actions : List Action) (ks : List ℕ) → IsRun u empty actions → IsTrue (is_steadfast u actions) → IsKept actions ks → IsTrue (is_complete actions ks) → after_all u empty (picked actions ks) ≡ after_all u empty actions
  pub kept : (actions : List Action) → IsKept actions (numbers actions)
  pub complete : (actions : List Action) → IsTrue (is_complete actions (numbers actions))
  pub same : (actions : List Action) → picked actions (numbers actions) ≡ actions

module _ (laws : OrderLaws) (u : Universe) (goals : List Goal) where
  in_any_order : (actions : List Action) (pairs : List ℕ) → ArePairsFor u goals pairs → IsPlan u pairs actions → InAnyOrder u goals actions
  in_any_order actions pairs resolved p = record {
    runs = λ ks kept. laws.runs u actions ks p.run.run p.run.steadfast kept;
    last = after_all u empty actions;
    ends_alike = λ ks kept complete. laws.alike u actions ks p.run.run p.run.steadfast kept complete;
    holds = pairs_hold u (after_all u empty actions) goals pairs resolved p.holds;
    own_kept = laws.kept actions;
    own_complete = laws.complete actions;
    own_same = laws.same actions;
  }

  deploys : (lines : List (List ℕ)) → Plans u goals lines → Deploys u goals lines
  deploys lines p = record {
    attains = p.attains;
    plan = p.for_pairs.plan;
    any_order = in_any_order p.for_pairs.plan.actions p.pairs p.resolved p.for_pairs.is;
    attained = p.for_pairs.is.attained;
    all = p.for_pairs.is.all;
    few = subst (λ n. count_by makes p.for_pairs.plan.actions ≤ length p.for_pairs.is.attained * greatest_demand u + n) (pairs_count u goals p.pairs p.resolved) p.for_pairs.is.few;
    told = p.for_pairs.told;
  }

  pub answer_deploys : (lines : List (List ℕ)) (status : Status) → PlanAnswer u goals lines status → DeploysOrRefuses u goals lines status
  answer_deploys lines status (inl (is, plans)) = inl (is, deploys lines plans)
  answer_deploys lines status (inr (is, refuses)) = inr (is, refuses)
