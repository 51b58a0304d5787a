-- Which goals are missing, and what is to be planned for.
--     serving_among u c zs g      how many of the instances serve the goal
--     missing u c leaving goals      the goals that fewer settled instances serve than they have places so far, in order
--     pair_for v g      the pair that the goal is, or the provider of the port that it is
--     rebound_in wishes c      the instances that may be bound anew, ascending
--     lack u c leaving z r      how many settled providers of the port the instance has too few
--     lacking u c leaving zs r      those of the instances that lack the port
--     wanted u c leaving zs r      how many providers of the port have to be there for these
--     short u c leaving zs ts r      how many of these are too few, where there are the given instances and the targets so far
--     targets u wishes c leaving goals      the pairs for the missing goals, and then the provider of each port as often as is short
use Rattle.std.specs.Prelude.{ℕ, ◌+◌, ◌-◌, nat_le, nat_lt, false, List, [], ◌∷◌, ◌++◌, Option, Some, fold, length, map, max, replicate, if◌then◌else◌}
use Rattle.std.specs.List.{count_by, filter, filter_map, range_with_len}
use Rattle.std.specs.Option.{option_map_or}
use Rattle.metis_ids.specs.declared.goals.Goal.{Goal}
use Rattle.metis_ids.specs.declared.goals.Goal.TheVariants.{Pair, Port}
use Rattle.metis_universe.specs.Terms.{Config, Universe, demand_of, has, is_bound, pair_of, places_of, port_count, provider_of, provides, serves}
use Rattle.metis_rollout.specs.Terms.{members}
use Rattle.metis_wishes.specs.Terms.{rebound}
use Rattle.metis_wishes.specs.declared.wish.Wish.{Wish}
use Rattle.metis_reconfigure.specs.Settled.{given, left_to_plan, settled}

abbrev pub serving_among : Universe → Config → List ℕ → Goal → ℕ
serving_among u c zs g = count_by (λ z. option_map_or (λ p. serves u p g) (pair_of c z) false) zs

abbrev pub missing_behind : Universe → Config → List ℕ → List Goal → List Goal → List Goal
missing_behind u c zs earlier [] = []
missing_behind u c zs earlier (g ∷ goals) =
    if nat_le (serving_among u c zs g) (places_of earlier g) then g ∷ missing_behind u c zs (earlier ++ g ∷ []) goals
    else missing_behind u c zs (earlier ++ g ∷ []) goals

abbrev pub missing : Universe → Config → List ℕ → List Goal → List Goal
missing u c leaving goals = missing_behind u c (settled c leaving) [] goals

abbrev pub pair_for : Universe → Goal → Option ℕ
pair_for v (Pair p) = Some p
pair_for v (Port r) = provider_of v r

abbrev pub rebound_in : List Wish → Config → List ℕ
rebound_in wishes c = filter (has (rebound wishes)) (members c)

-- the pair's demand, less the settled providers to which it is bound
abbrev pub lack : Universe → Config → List ℕ → ℕ → ℕ → ℕ
lack u c leaving z r = option_map_or (λ p. demand_of u p r) (pair_of c z) 0 - count_by (λ y. is_bound c r z y) (given u c leaving r)

abbrev pub lacking : Universe → Config → List ℕ → List ℕ → ℕ → List ℕ
lacking u c leaving zs r = filter (λ z. nat_lt 0 (lack u c leaving z r)) zs

-- the demand, and one more where the instance provides the port itself
abbrev pub wants : Universe → Config → ℕ → ℕ → ℕ
wants u c r z = option_map_or (λ p. demand_of u p r + (if provides u p r then 1 else 0)) (pair_of c z) 0

abbrev pub wanted : Universe → Config → List ℕ → List ℕ → ℕ → ℕ
wanted u c leaving zs r = fold max 0 (map (wants u c r) (lacking u c leaving zs r))

abbrev pub short : Universe → Config → List ℕ → List ℕ → List ℕ → ℕ → ℕ
short u c leaving zs ts r = wanted u c leaving zs r - length (given u c leaving r) - count_by (λ p. provides u p r) ts

abbrev pub providers_short : Universe → Universe → Config → List ℕ → List ℕ → List ℕ → ℕ → List ℕ
providers_short u v c leaving zs ts r = option_map_or (replicate (short u c leaving zs ts r)) (provider_of v r) []

abbrev pub targets_behind : Universe → Universe → Config → List ℕ → List ℕ → List ℕ → List ℕ → List ℕ
targets_behind u v c leaving zs ts [] = ts
targets_behind u v c leaving zs ts (r ∷ rs) = targets_behind u v c leaving zs (ts ++ providers_short u v c leaving zs ts r) rs

abbrev pub targets : Universe → List Wish → Config → List ℕ → List Goal → List ℕ
targets u wishes c leaving goals =
    let v = left_to_plan u wishes c leaving in
    targets_behind u v c leaving (rebound_in wishes c) (filter_map (pair_for v) (missing u c leaving goals)) (range_with_len 0 (port_count u))
