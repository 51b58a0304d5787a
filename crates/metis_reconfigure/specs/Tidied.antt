-- What the end has, and for what.
--     target_instances r      the instances of the targets, under their new numbers
--     IsTaken u c leaving goals z      a settled instance that serves one of the goals
--     IsTidied u wishes old goals r e      each instance of e is wished, a target's or a taken one, or bindings lead to it from one of these, and each binding is required
use Rattle.std.specs.Prelude.{ℕ, List, ◌++◌, length, map, IsSome, IsSomeAnd, IsTrue}
use Rattle.std.specs.List.{Contains, range_with_len}
use Rattle.metis_ids.specs.declared.actions.Action.{Action}
use Rattle.metis_ids.specs.declared.goals.Goal.{Goal}
use Rattle.metis_universe.specs.Terms.{Config, Universe, has, is_bound, pair_of, requires, serves}
use Rattle.metis_rollout.specs.Terms.{fresh_name}
use Rattle.metis_wishes.specs.declared.wish.Wish.{Wish}
use Rattle.metis_reconfigure.specs.Missing.{targets}
use Rattle.metis_reconfigure.specs.Reached.{IsReached}
use Rattle.metis_reconfigure.specs.Reconfiguration.{Reconfiguration, left_by}
use Rattle.metis_reconfigure.specs.Settled.{settled, stands_on}
use Rattle.metis_reconfigure.specs.Staying.{wished}

abbrev pub target_instances : {u : Universe} → {wishes : List Wish} → {old : List Action} → {goals : List Goal} → Reconfiguration u wishes old goals → List ℕ
target_instances {u} {wishes} {old} {goals} r =
    map (fresh_name old r.plan.actions) (range_with_len 0 (length (targets u wishes (left_by u old) r.leaving goals)))

pub record IsTaken (u : Universe) (c : Config) (leaving : List ℕ) (goals : List Goal) (z : ℕ) : Type 0 where
  pub there : IsTrue (has (settled c leaving) z)
  pub goal : Goal
  pub among : Contains goals goal
  pub serves_it : IsSomeAnd (pair_of c z) (λ p. IsTrue (serves u p goal))

pub record IsTidied (u : Universe) (wishes : List Wish) (old : List Action) (goals : List Goal) (r : Reconfiguration u wishes old goals) (e : Config) : Type 0 where
  pub takes : List ℕ
  pub taken : (z : ℕ) → IsTrue (has takes z) → IsTaken u (left_by u old) r.leaving goals z
  pub instances : (z : ℕ) → IsSome (pair_of e z)
      → IsReached (wished wishes (left_by u old) r.leaving ++ (target_instances r ++ takes)) (stands_on u e) z
  pub bindings : (s z y : ℕ) → IsTrue (is_bound e s z y) → IsSomeAnd (pair_of e z) (λ p. IsTrue (requires u p s))
