-- Ports that are required and not met.
--     demanded u c z r      how many different providers of the port the instance's pair demands
--     is_unmet u c z r      the instance's pair requires the port, and it has fewer different providers than the pair demands
--     unmet u c      the first of these, instance by instance and then port by port
--     IsAtMost, IsLeast      an instance and a port come no later than others;  are the first that pass a test
--     providers_if, is_met_if, is_lost      how many providers a port would have, whether it would be met, and what a client of an instance would lack,
--                                           if the instance were in another pair, or gone
--     changed c z o, earlier_of z own lost, own_unmet      that configuration;  the first of two;  the first of the instance's own
use Rattle.std.specs.Prelude.{◌≡◌, ◌<◌, ◌≤◌, ◌⊎◌, ℕ, ◌==◌, Bool, false, not, ◌&&◌, List, [], ◌∷◌, length, Option, Some, None, option_map, IsTrue, IsFalse, if◌then◌else◌, nat_le, nat_lt}
use Rattle.std.specs.List.{filter, find}
use Rattle.std.specs.Option.{option_map_or, option_or, option_and_then}
use Rattle.metis_universe.specs.Terms.{Config, Universe, demand_of, is_bound, is_met, pair_of, provides, put, remove, required_of, requires}

-- whether the instance is there and its pair requires the port
abbrev pub is_required : Universe → Config → ℕ → ℕ → Bool
is_required u c z r = option_map_or (λ p. requires u p r) (pair_of c z) false

-- what the pair demands of the port, 0 where the instance is not there or its pair does not require the port
abbrev pub demanded : Universe → Config → ℕ → ℕ → ℕ
demanded u c z r = option_map_or (λ p. demand_of u p r) (pair_of c z) 0

abbrev pub is_unmet : Universe → Config → ℕ → ℕ → Bool
is_unmet u c z r = is_required u c z r && not (is_met u c z r (demanded u c z r))

-- the first of the ports that the pair requires and that is not met
abbrev pub unmet_port : Universe → Config → ℕ → ℕ → Option ℕ
unmet_port u c z p = find (λ r. not (is_met u c z r (demand_of u p r))) (required_of u p)

abbrev pub unmet_among : Universe → Config → List (ℕ × ℕ) → Option (ℕ × ℕ)
unmet_among u c [] = None
unmet_among u c (e ∷ es) = option_or (option_map (λ r. (e.0, r)) (unmet_port u c e.0 e.1)) (unmet_among u c es)

-- instance by instance, and then port by port, the first that is required and not met
abbrev pub unmet : Universe → Config → Option (ℕ × ℕ)
unmet u c = unmet_among u c c.instances

-- the instance comes earlier, or it is the same and the port comes no later
abbrev pub IsAtMost : ℕ × ℕ → ℕ → ℕ → Type 0
IsAtMost x z r = (x.0 < z) ⊎ ((x.0 ≡ z) × (x.1 ≤ r))

-- the first instance, and then the first port, that pass the test
abbrev pub IsLeast : (ℕ → ℕ → Bool) → Option (ℕ × ℕ) → Type 0
IsLeast test None = (z r : ℕ) → IsFalse (test z r)
IsLeast test (Some x) = IsTrue (test x.0 x.1) × ((z r : ℕ) → IsTrue (test z r) → IsAtMost x z r)

-- ---- what would be met

-- the pair of y, where z is taken to be in o, or gone
abbrev pub pair_if : Config → ℕ → Option ℕ → ℕ → Option ℕ
pair_if c z o y = if y == z then o else pair_of c y

-- how many bindings lead from the port r of w to instances whose pairs provide it, where z is taken to be in o, or gone
abbrev pub providers_if : Universe → Config → ℕ → Option ℕ → ℕ → ℕ → ℕ
providers_if u c z o w r = length (filter (λ b. (b.0 == r) && (b.1 == w) && option_map_or (λ q. provides u q r) (pair_if c z o b.2) false) c.bindings)

-- whether these are n or more
abbrev pub is_met_if : Universe → Config → ℕ → Option ℕ → ℕ → ℕ → ℕ → Bool
is_met_if u c z o w r n = nat_le n (providers_if u c z o w r)

-- w's port r is bound to z and required, and would not be met
abbrev pub is_lost : Universe → Config → ℕ → Option ℕ → ℕ → ℕ → Bool
is_lost u c z o w r = is_bound c r w z && is_required u c w r && not (is_met_if u c z o w r (demanded u c w r))

-- the configuration with z in o, or without z
abbrev pub changed : Config → ℕ → Option ℕ → Config
changed c z (Some q) = put c z q
changed c z None = remove c z

-- of a port of z's own and an instance with its port, the one that comes first
abbrev pub earlier_of : ℕ → Option ℕ → Option (ℕ × ℕ) → Option (ℕ × ℕ)
earlier_of z None lost = lost
earlier_of z (Some r) None = Some (z, r)
earlier_of z (Some r) (Some x) = if nat_lt x.0 z then Some x else Some (z, r)

-- the first of z's own ports that would not be met
abbrev pub own_unmet : Universe → Config → ℕ → Option ℕ → Option ℕ
own_unmet u c z o = option_and_then (λ q. find (λ r. not (is_met_if u c z o z r (demand_of u q r))) (required_of u q)) o
