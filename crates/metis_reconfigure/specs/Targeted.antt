-- The missing goals and the targets, by tables.
--     IsLeft u left l      the layers are those of a universe with as many pairs and ports, which is what is left to plan
--     is_unavoidable_by u wishes l g      whether the missing goal is an avoided pair, or is not attained by the layers
--     IsGivenAt u c leaving rows r      the rows have the given instances of the port
--     AreTables u left c leaving rows l      these are such layers, and the rows are the given instances of each port
--     is_unserved u c leaving ts r z      whether the instance lacks the port, and wants more providers of it than the given ones and these targets
--     IsUnmet u v c leaving zs ts z r      of the ports in order, r is the first that is short and has no provider, and z is the first of the instances that is unserved
--     pair_in l g      the pair that the goal is, or the provider of the port that it is
--     HasRequired u c zs rs      each port that the pair of one of the instances requires is among these
--     lack_by, is_lacking, is_unserved_by, wanted_by, short_by      how many providers are too few, and the rest, where these are the given instances of the port
--     IfTargets result P, IfUnmet result P      P holds of the targets, where they are told;  of the instance and the port, where a port is unmet
use Rattle.std.specs.Prelude.{◌≡◌, ◌<◌, ℕ, ◌-◌, nat_lt, Bool, ◌&&◌, ◌||◌, not, List, Option, Some, None, IsTrue, Result, Ok, Err, fold, length, map, max, ⊤}
use Rattle.std.specs.List.{count_by, filter, find, range_with_len}
use Rattle.std.specs.Option.{is_some}
use Rattle.metis_completion.specs.Terms.{given_in}
use Rattle.metis_config.specs.Terms.{demanded, is_required}
use Rattle.metis_ids.specs.declared.goals.Goal.{Goal}
use Rattle.metis_ids.specs.declared.goals.Goal.TheVariants.{Pair, Port}
use Rattle.metis_ids.specs.declared.no_memory.NoMemory.{NoMemory}
use Rattle.metis_layers.specs.Terms.{IsLayers, Layers, first_at, layer_at}
use Rattle.metis_universe.specs.Terms.{Config, Universe, has, is_bound, pair_count, port_count, provider_of, provides}
use Rattle.metis_wishes.specs.Terms.{is_avoided}
use Rattle.metis_wishes.specs.declared.wish.Wish.{Wish}
use Rattle.metis_reconfigure.specs.Answerable.{AreMet}
use Rattle.metis_reconfigure.specs.Missing.{lack, short, targets_behind, wants}
use Rattle.metis_reconfigure.specs.Settled.{given}
use Rattle.metis_reconfigure.specs.declared.targets.Targets.{Targets}
use Rattle.metis_reconfigure.specs.declared.targets.Targets.TheVariants as targets

-- ---- what is left to plan

pub record IsLeft (u left : Universe) (l : Layers) : Type 0 where
  pub layers : IsLayers left l
  pub pairs : pair_count left ≡ pair_count u
  pub ports : port_count left ≡ port_count u

abbrev pub is_unavoidable_by : Universe → List Wish → Layers → Goal → Bool
is_unavoidable_by u wishes l (Pair p) = is_avoided u wishes p || not (is_some (layer_at l p))
is_unavoidable_by u wishes l (Port r) = not (is_some (first_at l r))

abbrev pub pair_in : Layers → Goal → Option ℕ
pair_in l (Pair p) = Some p
pair_in l (Port r) = first_at l r

abbrev pub IsGivenAt : Universe → Config → List ℕ → List (List ℕ) → ℕ → Type 0
IsGivenAt u c leaving rows r = given_in rows r ≡ given u c leaving r

pub record AreTables (u left : Universe) (c : Config) (leaving : List ℕ) (rows : List (List ℕ)) (l : Layers) : Type 0 where
  pub over : IsLeft u left l
  pub standing : (r : ℕ) → IsGivenAt u c leaving rows r

-- ---- what is short

abbrev pub lack_by : Universe → Config → List ℕ → ℕ → ℕ → ℕ
lack_by u c standing z r = demanded u c z r - count_by (λ y. is_bound c r z y) standing

abbrev pub is_lacking : Universe → Config → List ℕ → ℕ → ℕ → Bool
is_lacking u c standing r z = nat_lt 0 (lack_by u c standing z r)

abbrev pub is_unserved_by : Universe → Config → List ℕ → List ℕ → ℕ → ℕ → Bool
is_unserved_by u c standing ts r z = is_lacking u c standing r z && nat_lt (count_by (λ p. provides u p r) ts) (wants u c r z - length standing)

abbrev pub wanted_by : Universe → Config → List ℕ → List ℕ → ℕ → ℕ
wanted_by u c standing zs r = fold max 0 (map (wants u c r) (filter (is_lacking u c standing r) zs))

abbrev pub short_by : Universe → Config → List ℕ → List ℕ → List ℕ → ℕ → ℕ
short_by u c standing zs ts r = wanted_by u c standing zs r - length standing - count_by (λ p. provides u p r) ts

abbrev pub HasRequired : Universe → Config → List ℕ → List ℕ → Type 0
HasRequired u c zs rs = (z r : ℕ) → IsTrue (has zs z) → IsTrue (is_required u c z r) → IsTrue (has rs r)

abbrev pub is_unserved : Universe → Config → List ℕ → List ℕ → ℕ → ℕ → Bool
is_unserved u c leaving ts r z = nat_lt 0 (lack u c leaving z r) && nat_lt (count_by (λ p. provides u p r) ts) (wants u c r z - length (given u c leaving r))

-- the ports before r are met, and r is short at the targets so far
pub record IsUnmet (u v : Universe) (c : Config) (leaving zs ts : List ℕ) (z r : ℕ) : Type 0 where
  pub below : r < port_count u
  pub met : AreMet u v c leaving zs ts (range_with_len 0 r)
  pub short : 0 < short u c leaving zs (targets_behind u v c leaving zs ts (range_with_len 0 r)) r
  pub without : provider_of v r ≡ None
  pub unserved : find (is_unserved u c leaving (targets_behind u v c leaving zs ts (range_with_len 0 r)) r) zs ≡ Some z

-- ---- what is told

abbrev pub IfTargets : Result Targets NoMemory → (List ℕ → Type 0) → Type 0
IfTargets (Ok (targets.Pairs ts)) P = P ts.items
IfTargets (Ok (targets.Unmet z r)) P = ⊤
IfTargets (Err NoMemory) P = ⊤

abbrev pub IfUnmet : Result Targets NoMemory → (ℕ → ℕ → Type 0) → Type 0
IfUnmet (Ok (targets.Pairs ts)) P = ⊤
IfUnmet (Ok (targets.Unmet z r)) P = P z r
IfUnmet (Err NoMemory) P = ⊤
