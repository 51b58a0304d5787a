-- What leaves, what is settled, and what the settled instances give.
--     stands_on u c      the edges from each instance to those on which it stands: to which it is bound at a port that its pair requires
--     leads_up u c rebound      the same, but from instances that may be bound anew;  dependents, the other way round
--     is_root u wishes c z, roots u wishes c      whether the instance is retired, or in an avoided pair;  these instances, ascending
--     AreLeaving u wishes c leaving      the least set that has the roots and, with each instance, those that stand on it and may not be bound anew
--     settled c leaving      the other instances, ascending
--     gives u c r z, given u c leaving r      whether the instance's pair provides the port;  the settled ones that do, ascending
--     left_to_plan u wishes c leaving      the universe with what these give off the demands, where no avoided pair provides
use Rattle.std.specs.Prelude.{ℕ, Bool, false, ◌&&◌, ◌||◌, not, List, length, map}
use Rattle.std.specs.List.{filter}
use Rattle.std.specs.Option.{option_map_or}
use Rattle.metis_universe.specs.Terms.{Config, Universe, has, pair_of, provides, residual}
use Rattle.metis_rollout.specs.Terms.{is_idle, members}
use Rattle.metis_wishes.specs.Terms.{avoided, is_avoided, rebound, retired}
use Rattle.metis_wishes.specs.declared.wish.Wish.{Wish}
use Rattle.metis_reconfigure.specs.Reached.{AreReached, Edge}

abbrev pub stands_on : Universe → Config → List Edge
stands_on u c = map (λ b. (b.1, b.2, b.0)) (filter (λ b. not (is_idle u c b)) c.bindings)

abbrev pub leads_up : Universe → Config → List ℕ → List Edge
leads_up u c free = map (λ b. (b.1, b.2, b.0)) (filter (λ b. not (is_idle u c b) && not (has free b.1)) c.bindings)

abbrev pub dependents : Universe → Config → List ℕ → List Edge
dependents u c free = map (λ b. (b.2, b.1, b.0)) (filter (λ b. not (is_idle u c b) && not (has free b.1)) c.bindings)

abbrev pub is_root : Universe → List Wish → Config → ℕ → Bool
is_root u wishes c z = has (retired wishes) z || option_map_or (is_avoided u wishes) (pair_of c z) false

abbrev pub roots : Universe → List Wish → Config → List ℕ
roots u wishes c = filter (is_root u wishes c) (members c)

abbrev pub AreLeaving : Universe → List Wish → Config → List ℕ → Type 0
AreLeaving u wishes c leaving = AreReached (roots u wishes c) (dependents u c (rebound wishes)) leaving

abbrev pub settled : Config → List ℕ → List ℕ
settled c leaving = filter (λ z. not (has leaving z)) (members c)

abbrev pub gives : Universe → Config → ℕ → ℕ → Bool
gives u c r z = option_map_or (λ p. provides u p r) (pair_of c z) false

abbrev pub given : Universe → Config → List ℕ → ℕ → List ℕ
given u c leaving r = filter (gives u c r) (settled c leaving)

abbrev pub left_to_plan : Universe → List Wish → Config → List ℕ → Universe
left_to_plan u wishes c leaving = residual u (λ r. length (given u c leaving r)) (avoided u wishes)
