-- In which pairs the providers of each port of each requirer are.
--     shares_of s, shares_in es      each pair with how many are in it;  the same of each of a list
--     key_cmp, weight_at m w r f, weight_in es w r f      the order of requirers with a port;  how many of the port's providers are in a pair that passes
--     providers_in c w r f, IsTallied c m      the same of a configuration;  m has these for each requirer and port
use Rattle.std.specs.Prelude.{◌≡◌, ℕ, ◌==◌, Bool, false, ◌&&◌, List, [], ◌∷◌, map}
use Rattle.std.specs.BTreeMap.{BTreeMap, get, is_at}
use Rattle.std.specs.List.{count_by}
use Rattle.std.specs.Map.{lookup}
use Rattle.std.specs.Option.{option_map_or}
use Rattle.std.specs.Ordering.{nat_cmp, ordering_then}
use Rattle.std.specs.declared.cmp.Ordering.{Ordering}
use Rattle.metis_universe.specs.Terms.{Config, pair_of}
use Rattle.metis_config.specs.Crowd.{weight}
use Rattle.metis_config.specs.declared.supply.Supply.{Supply}
use Rattle.metis_config.specs.declared.supply.Supply.TheVariants.{One, Many}

abbrev pub shares_of : Supply → List (ℕ × ℕ)
shares_of (One pair) = (pair, 1) ∷ []
shares_of (Many crowd) = crowd.shares

-- of each requirer and port
abbrev pub shares_in : List ((ℕ × ℕ) × Supply) → List ((ℕ × ℕ) × List (ℕ × ℕ))
shares_in es = map (λ e. (e.0, shares_of e.1)) es

abbrev pub key_cmp : ℕ × ℕ → ℕ × ℕ → Ordering
key_cmp a b = ordering_then (nat_cmp a.0 b.0) (nat_cmp a.1 b.1)

abbrev pub weight_at : BTreeMap (ℕ × ℕ) Supply → ℕ → ℕ → (ℕ → Bool) → ℕ
weight_at m w r f = option_map_or (λ s. weight f (shares_of s)) (get key_cmp m (w, r)) 0

-- the same of a list
abbrev pub weight_in : List ((ℕ × ℕ) × List (ℕ × ℕ)) → ℕ → ℕ → (ℕ → Bool) → ℕ
weight_in es w r f = option_map_or (weight f) (lookup (is_at (key_cmp (w, r))) es) 0

abbrev pub providers_in : Config → ℕ → ℕ → (ℕ → Bool) → ℕ
providers_in c w r f = count_by (λ b. (b.0 == r) && (b.1 == w) && option_map_or f (pair_of c b.2) false) c.bindings

abbrev pub IsTallied : Config → BTreeMap (ℕ × ℕ) Supply → Type 0
IsTallied c m = (w r : ℕ) (f : ℕ → Bool) → weight_at m w r f ≡ providers_in c w r f
