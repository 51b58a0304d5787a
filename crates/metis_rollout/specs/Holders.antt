-- What the code keeps of a scaffold while it is made.
--     ends_among u s ps      those of ps from which a support takes a port, each once for each of its slots
--     first_among u ends r      the place of the first of these that is the port's provider
--     holder_at firsts r k      the number that is slot k of the port, where a table has the number that is slot 1
--     AreFew firsts      the table's numbers are small
--     IsScaffoldIn u ends s      the scaffold's instances are in these pairs
--     TellsTruly u s      what a support says of the pairs that it selects is so in the universe
use Rattle.std.specs.Prelude.{ℕ, ◌+◌, ◌-◌, ◌≤◌, ◌≡◌, List, IsTrue, flat_map, length, map, replicate, slice_index_or}
use Rattle.std.specs.List.{filter, range_with_len}
use Rattle.std.specs.Option.{option_map_or}
use Rattle.metis_universe.specs.Terms.{Universe, has, layer_of, origin_of, port_count, provider_of, slots_by}
use Rattle.metis_layers.specs.Terms.{path_to, place_of, slot_lines}
use Rattle.metis_support.specs.Terms.{Support, is_selected, layer_at, origin_at, provider_at, provider_pairs}
use Rattle.metis_rollout.specs.declared.scaffolding.Scaffold.{Scaffold}

abbrev pub ends_among : Universe → Support → List ℕ → List ℕ
ends_among u s ps = flat_map (λ p. replicate (slots_by (provider_at s) u s.selected.members p) p) (filter (has (provider_pairs s)) ps)

abbrev pub first_among : Universe → List ℕ → ℕ → ℕ
first_among u ends r = option_map_or (place_of ends) (provider_of u r) 0

abbrev pub holder_at : List ℕ → ℕ → ℕ → ℕ
holder_at firsts r k = slice_index_or firsts r 0 + (k - 1)

abbrev pub AreFew : List ℕ → Type 0
AreFew firsts = (r : ℕ) → slice_index_or firsts r 0 ≤ 32000

pub record TellsTruly (u : Universe) (s : Support) : Type 0 where
  pub origins : (p : ℕ) → IsTrue (is_selected s p) → origin_at s p ≡ origin_of u p
  pub layers : (p : ℕ) → IsTrue (is_selected s p) → layer_at s p ≡ layer_of u p

-- the scaffold makes an instance in each of these pairs, and has the first holder of each port among them
pub record IsScaffoldIn (u : Universe) (ends : List ℕ) (s : Scaffold) : Type 0 where
  pub actions : s.actions.items ≡ slot_lines u (holder_at s.firsts) 0 (map (path_to u) ends)
  pub count : s.count ≡ length ends
  pub firsts : s.firsts ≡ map (first_among u ends) (range_with_len 0 (port_count u))
