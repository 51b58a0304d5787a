-- Instances that are bound to other providers.
--     named_targets name ts      the targets with the names of their instances
--     candidates u c leaving ts name z r      to which the instance may be bound at the port: the given instances, and then those of the targets that provide it, but itself and those to which it is bound
--     rebinds_of u c leaving ts name z      binds of the instance, for each port as many as it lacks
--     rebinds u wishes c leaving ts name      these of each instance that may be bound anew
use Rattle.std.specs.Prelude.{ℕ, ◌==◌, ◌&&◌, not, List, [], ◌++◌, flat_map, length, map, take}
use Rattle.std.specs.List.{filter, range_with_len, slice_index_or}
use Rattle.std.specs.Option.{option_map_or}
use Rattle.metis_ids.specs.declared.actions.Action.{Action}
use Rattle.metis_ids.specs.declared.actions.Action.TheVariants.{Bind}
use Rattle.metis_universe.specs.Terms.{Config, Universe, is_bound, pair_of, provides, required_of}
use Rattle.metis_wishes.specs.declared.wish.Wish.{Wish}
use Rattle.metis_reconfigure.specs.Missing.{lack, rebound_in}
use Rattle.metis_reconfigure.specs.Settled.{given}

-- the instances of the targets that provide the port: target number n is made as instance n, and named anew
abbrev pub fresh_givers : Universe → List ℕ → (ℕ → ℕ) → ℕ → List ℕ
fresh_givers u ts name r = map name (filter (λ n. provides u (slice_index_or ts n 0) r) (range_with_len 0 (length ts)))

-- these, each with its pair
abbrev pub named_targets : (ℕ → ℕ) → List ℕ → List (ℕ × ℕ)
named_targets name ts = map (λ n. (name n, slice_index_or ts n 0)) (range_with_len 0 (length ts))

abbrev pub candidates : Universe → Config → List ℕ → List ℕ → (ℕ → ℕ) → ℕ → ℕ → List ℕ
candidates u c leaving ts name z r = filter (λ y. not (y == z) && not (is_bound c r z y)) (given u c leaving r ++ fresh_givers u ts name r)

abbrev pub rebinds_at : Universe → Config → List ℕ → List ℕ → (ℕ → ℕ) → ℕ → ℕ → List Action
rebinds_at u c leaving ts name z r = map (λ y. Bind r z y) (take (lack u c leaving z r) (candidates u c leaving ts name z r))

abbrev pub rebinds_of : Universe → Config → List ℕ → List ℕ → (ℕ → ℕ) → ℕ → List Action
rebinds_of u c leaving ts name z = option_map_or (λ p. flat_map (rebinds_at u c leaving ts name z) (required_of u p)) (pair_of c z) []

abbrev pub rebinds : Universe → List Wish → Config → List ℕ → List ℕ → (ℕ → ℕ) → List Action
rebinds u wishes c leaving ts name = flat_map (rebinds_of u c leaving ts name) (rebound_in wishes c)
