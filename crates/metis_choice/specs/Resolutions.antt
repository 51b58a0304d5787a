-- What is said of resolved goals. Where memory ran out, nothing is.
--     IsPairFor u g p      p is the pair that the goal is, or the provider of the port that it is
--     ArePairsFor u goals pairs      for each goal in order there is the pair for it
--     IfPairs result P      P holds of the pairs, where there is one for each goal
--     IfLacksGoal result P      P holds of the goal, where one is lacking
--     pair_by l g      the pair for the goal, by the layers: none where it has no layer
--     ArePairs u goals pairs      the pairs for the goals, which some actions attain
--     IsResolved u goals resolved      such pairs, or the first goal that the attainable pairs lack
use Rattle.std.specs.Prelude.{◌≡◌, ◌<◌, ℕ, List, length, Option, Some, Result, Ok, Err, option_map, ⊤}
use Rattle.std.specs.List.{All, AllZip}
use Rattle.metis_ids.specs.declared.goals.Goal.{Goal}
use Rattle.metis_ids.specs.declared.goals.Goal.TheVariants.{Pair, Port}
use Rattle.metis_ids.specs.declared.no_memory.NoMemory.{NoMemory}
use Rattle.metis_universe.specs.Terms.{Attains, GoalRefusal, Universe, pair_count, provider_of}
use Rattle.metis_layers.specs.Terms.{Layers, attained_pairs, first_at, layer_at}
use Rattle.metis_choice.specs.declared.resolution.Resolved.{Resolved}
use Rattle.metis_choice.specs.declared.resolution.Resolved.TheVariants as resolved

abbrev pub IsPairFor : Universe → Goal → ℕ → Type 0
IsPairFor u (Pair q) p = q ≡ p
IsPairFor u (Port r) p = provider_of u r ≡ Some p

abbrev pub ArePairsFor : Universe → List Goal → List ℕ → Type 0
ArePairsFor u goals pairs = AllZip (IsPairFor u) goals pairs

abbrev pub IfPairs : Result Resolved NoMemory → (List ℕ → Type 0) → Type 0
IfPairs (Ok (resolved.Pairs pairs)) P = P pairs.items
IfPairs (Ok (resolved.Lacks g)) P = ⊤
IfPairs (Err NoMemory) P = ⊤

abbrev pub IfLacksGoal : Result Resolved NoMemory → (Goal → Type 0) → Type 0
IfLacksGoal (Ok (resolved.Pairs pairs)) P = ⊤
IfLacksGoal (Ok (resolved.Lacks g)) P = P g
IfLacksGoal (Err NoMemory) P = ⊤

abbrev pub pair_by : Layers → Goal → Option ℕ
pair_by l (Pair p) = option_map (λ _. p) (layer_at l p)
pair_by l (Port r) = first_at l r

pub record ArePairs (u : Universe) (goals : List Goal) (pairs : List ℕ) : Type 0 where
  pub resolved : ArePairsFor u goals pairs
  pub within : All (λ p. p < pair_count u) pairs
  pub attained : Attains u pairs
  pub few : length pairs ≡ length goals

abbrev pub IsResolved : Universe → List Goal → Resolved → Type 0
IsResolved u goals (resolved.Pairs pairs) = ArePairs u goals pairs.items
IsResolved u goals (resolved.Lacks g) = GoalRefusal u goals (attained_pairs u) g
