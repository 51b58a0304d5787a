-- When wishes and goals can be answered by a list of actions.
--     is_absent c z      whether the instance does not stand
--     is_firm wishes z      whether a line says that the instance stays, or may be bound anew
--     is_unavoidable u wishes v g      whether the missing goal is an avoided pair, or is not attained over what is left to plan
--     AreMet u v c leaving zs ts rs      each of these ports that is short has a provider over what is left to plan
--     IsAnswerable u wishes old goals leaving      each named instance stands, none that is to stay leaves, no missing goal is unavoidable, each port that is short has a provider, and the targets are few
use Rattle.std.specs.Prelude.{◌≡◌, ◌⊎◌, ◌≤◌, ℕ, Bool, ◌||◌, not, List, [], ◌∷◌, ◌++◌, IsFalse, IsSome, IsTrue, length, ⊤}
use Rattle.std.specs.List.{range_with_len}
use Rattle.std.specs.Option.{is_some}
use Rattle.metis_ids.specs.declared.actions.Action.{Action}
use Rattle.metis_ids.specs.declared.goals.Goal.{Goal}
use Rattle.metis_ids.specs.declared.goals.Goal.TheVariants.{Pair, Port}
use Rattle.metis_universe.specs.Terms.{Config, Universe, has, layer_of, pair_of, port_count, provider_of}
use Rattle.std.specs.List.{All, filter_map}
use Rattle.metis_wishes.specs.Terms.{is_avoided, kept, named, rebound}
use Rattle.metis_wishes.specs.declared.wish.Wish.{Wish}
use Rattle.metis_reconfigure.specs.Missing.{missing, pair_for, providers_short, rebound_in, short, targets}
use Rattle.metis_reconfigure.specs.Reconfiguration.{left_by}
use Rattle.metis_reconfigure.specs.Settled.{left_to_plan}

abbrev pub is_absent : Config → ℕ → Bool
is_absent c z = not (is_some (pair_of c z))

abbrev pub is_firm : List Wish → ℕ → Bool
is_firm wishes z = has (kept wishes) z || has (rebound wishes) z

abbrev pub is_unavoidable : Universe → List Wish → Universe → Goal → Bool
is_unavoidable u wishes v (Pair p) = is_avoided u wishes p || not (is_some (layer_of v p))
is_unavoidable u wishes v (Port r) = not (is_some (provider_of v r))

abbrev pub AreMet : Universe → Universe → Config → List ℕ → List ℕ → List ℕ → List ℕ → Type 0
AreMet u v c leaving zs ts [] = ⊤
AreMet u v c leaving zs ts (r ∷ rs) = ((short u c leaving zs ts r ≡ 0) ⊎ IsSome (provider_of v r)) × AreMet u v c leaving zs (ts ++ providers_short u v c leaving zs ts r) rs

pub record IsAnswerable (u : Universe) (wishes : List Wish) (old : List Action) (goals : List Goal) (leaving : List ℕ) : Type 0 where
  pub present : (z : ℕ) → IsTrue (has (named wishes) z) → IsSome (pair_of (left_by u old) z)
  pub firm : (z : ℕ) → IsTrue (is_firm wishes z) → IsFalse (has leaving z)
  pub avoidable : All (λ g. IsFalse (is_unavoidable u wishes (left_to_plan u wishes (left_by u old) leaving) g)) (missing u (left_by u old) leaving goals)
  pub met : let v = left_to_plan u wishes (left_by u old) leaving in
      AreMet u v (left_by u old) leaving (rebound_in wishes (left_by u old)) (filter_map (pair_for v) (missing u (left_by u old) leaving goals)) (range_with_len 0 (port_count u))
  pub few : length (targets u wishes (left_by u old) leaving goals) ≤ 256
