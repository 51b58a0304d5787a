use Rattle.std.proofs.Common.{◌≡◌, ◌<◌, ℕ, length, List, Ok}
use Rattle.std.specs.List.{All}
use Rattle.metis_choice.specs.Terms.{ArePairsFor, IfLacksGoal, IfPairs, IsResolved}
use Rattle.metis_choice.specs.declared.resolution.Resolved.{Resolved}
use Rattle.metis_choice.specs.declared.resolution.Resolved.TheVariants.{Pairs, Lacks}
use Rattle.metis_ids.specs.declared.goals.Goal.{Goal}
use Rattle.metis_layers.specs.Terms.{attained_pairs}
use Rattle.metis_universe.specs.Terms.{Attains, GoalRefusal, Universe, pair_count}
use Rattle.metis_choice.proofs.resolution.resolve_goals.Goals as goal

resolved_so : (u : Universe) (goals : List Goal) (r : Resolved) → ((pairs : List ℕ) → ArePairsFor u goals pairs → length pairs ≡ length goals)
    → IfLacksGoal (Ok r) (GoalRefusal u goals (attained_pairs u)) → IfPairs (Ok r) (ArePairsFor u goals) → IfPairs (Ok r) (All (λ p. p < pair_count u)) → IfPairs (Ok r) (Attains u) → IsResolved u goals r
resolved_so u goals (Pairs pairs) count lacks are within attained = record { resolved = are; within = within; attained = attained; few = count pairs.items are }
resolved_so u goals (Lacks g) count lacks are within attained = lacks

pub returns-clause-resolved : goal.returns-clause-resolved
returns-clause-resolved c =
    let k = c.in_ok-resolved.ensures in
    resolved_so c.args.u.now c.args.goals.now c.in_ok-resolved.resolved (c.pairs_for_goals_are_unique.ensures.count c.args.u.now c.args.goals.now) k.lacks k.pairs k.of_universe k.pairs_attained
