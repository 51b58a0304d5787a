-- The layers of a universe, as the program holds them.
--     Layers      the layer of each pair, the attained pairs, the same by layer, and the first provider of each port
--     layer_at l p, first_at l r      what they say of a pair and of a port
--     IsLayers u l      they are those of the universe
--     found_before u round p      the first round before this one that has p
--     order_by rounds n      the pairs by layer and then by number
use Rattle.std.specs.Prelude.{◌≡◌, ℕ, ◌==◌, ◌<◌, Bool, false, List, length, filter, Option, Some, None, slice_index_or, if◌then◌else◌}
use Rattle.std.specs.List.{find, flat_map, range_with_len}
use Rattle.std.specs.Option.{option_map_or, option_or}
use Rattle.metis_ids.specs.Terms.{PairSet}
use Rattle.metis_universe.specs.Terms.{Universe, has, layer_of, layer_set, layered, pair_count, port_count, provider_of}
use Rattle.metis_layers.specs.LayerOrder.{attained_pairs}

pub record Layers : Type 0 where
  pub rounds : List (Option ℕ)
  pub attained : PairSet
  pub order : List ℕ
  pub first : List (Option ℕ)

abbrev pub layer_at : Layers → ℕ → Option ℕ
layer_at l p = slice_index_or l.rounds p None

abbrev pub first_at : Layers → ℕ → Option ℕ
first_at l r = slice_index_or l.first r None

pub record IsLayers (u : Universe) (l : Layers) : Type 0 where
  pub pairs : length l.rounds ≡ pair_count u
  pub ports : length l.first ≡ port_count u
  pub layer : (p : ℕ) → p < pair_count u → layer_at l p ≡ layer_of u p
  pub size : l.attained.size ≡ pair_count u
  pub attained : l.attained.members ≡ attained_pairs u
  pub order : l.order ≡ layered u
  pub provider : (r : ℕ) → r < port_count u → first_at l r ≡ provider_of u r

-- the layer that is known already, or this round where the pair is there
abbrev pub stamp : Option ℕ → Bool → ℕ → Option ℕ
stamp known there round = option_or known (if there then Some round else None)

-- the first of the rounds before this one that has the pair
abbrev pub found_before : Universe → ℕ → ℕ → Option ℕ
found_before u round p = find (λ k. has (layer_set u k) p) (range_with_len 0 round)

abbrev pub is_round : Option ℕ → ℕ → Bool
is_round o round = option_map_or (λ l. l == round) o false

-- the pairs of the round, ascending
abbrev pub of_round : List (Option ℕ) → ℕ → ℕ → List ℕ
of_round rounds n round = filter (λ p. is_round (slice_index_or rounds p None) round) (range_with_len 0 n)

-- the pairs by round and then by number
abbrev pub order_by : List (Option ℕ) → ℕ → List ℕ
order_by rounds n = flat_map (of_round rounds (length rounds)) (range_with_len 0 n)
