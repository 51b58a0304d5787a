-- What is known of a plan for targets that some list of actions attains.
--     IsPlanFor u g plan      its actions are a run that holds the targets, and what else the planner promises of it
use Rattle.std.specs.Prelude.{◌≡◌, ◌≤◌, ◌<◌, ◌*◌, ◌^◌, ℕ, List, IsTrue, length}
use Rattle.std.specs.List.{All}
use Rattle.metis_ids.specs.Terms.{Plan}
use Rattle.metis_universe.specs.Terms.{Holds, IsOf, IsSteadfastRun, IsTidy, NamesBelow, Universe, after_all, empty, pair_count}
use Rattle.metis_layers.specs.Terms.{instances_of}
use Rattle.metis_lines.specs.Terms.{is_justified, stations}
use Rattle.metis_emit.specs.Terms.{entered}
use Rattle.metis_planner.specs.Outcomes.{EventBelow, IsLean}
use Rattle.metis_planner.specs.Rounds.{IsByRounds, graph_after}

-- Its actions are a steadfast run that holds the targets; at its end only the targets and what serves them remain. It counts its instances, which are few, and so are the actions of
-- each. The instances are the life lines for the targets and the pairs of the dups, and each goes through its line's pairs. Each dup is
-- forced by its cycle, and they are no more than the instances. It is the one plan that rounds come to.
pub record IsPlanFor (u : Universe) (g : List ℕ) (plan : Plan) : Type 0 where
  pub run : IsSteadfastRun u plan.actions
  pub holds : Holds (after_all u empty plan.actions) g
  pub numbers : All (IsOf u) plan.actions
  pub named : All (NamesBelow (2 ^ 32)) plan.actions
  pub tidy : IsTidy u g (after_all u empty plan.actions)
  pub instances : plan.instances ≡ instances_of plan.actions
  pub lean : IsLean u plan.instances g
  pub bounded : plan.instances ≤ 32256
  pub short : length plan.actions ≤ 321 * plan.instances
  pub lines : (l : ℕ) → entered u l plan.actions ≡ stations (graph_after u g plan.dups) l
  pub justified : IsTrue (is_justified u g plan.dups)
  pub dups : length plan.dups ≤ plan.instances
  pub doubled : All (λ d. d.pair < pair_count u) plan.dups
  pub cycles : All (λ d. 2 ≤ length d.cycle) plan.dups
  pub events : All (λ d. All (EventBelow (2 ^ 32)) d.cycle) plan.dups
  pub rounds : IsByRounds u g plan
