-- What rows without a fault spell.
--     is_listed n names      whether the name stands in the list
--     provides_named u p n      whether the pair p provides the port named n
--     demand_named u p n      how many different providers it demands of the port named n
--     leads_to u p n      whether it leads to the state named n of its type
--     Spells u p row state      p is the pair of this state of this type, and has what the state's row says
use Rattle.std.specs.Prelude.{◌≡◌, ℕ, Bool, false, List, Some}
use Rattle.std.specs.List.{list_any}
use Rattle.std.specs.Option.{option_map_or}
use Rattle.std.specs.Str.{bytes_eq}
use Rattle.metis_universe.specs.RowShapes.{StateRow, TypeRow}
use Rattle.metis_universe.specs.Rows.{greatest_count}
use Rattle.metis_universe.specs.Universe.{Universe, demand_of, has, is_initial, next_of, pair_named, port_named, provides, state_named, type_of}

abbrev pub is_listed : List ℕ → List (List ℕ) → Bool
is_listed n names = list_any (bytes_eq n) names

abbrev pub provides_named : Universe → ℕ → List ℕ → Bool
provides_named u p n = option_map_or (provides u p) (port_named u n) false

abbrev pub demand_named : Universe → ℕ → List ℕ → ℕ
demand_named u p n = option_map_or (demand_of u p) (port_named u n) 0

abbrev pub leads_to : Universe → ℕ → List ℕ → Bool
leads_to u p n = option_map_or (has (next_of u p)) (state_named u (type_of u p) n) false

pub record Spells (u : Universe) (p : ℕ) (row : TypeRow) (state : StateRow) : Type 0 where
  pub named : pair_named u row.name state.name ≡ Some p
  pub initial : is_initial u p ≡ bytes_eq row.initial state.name
  pub provides : (n : List ℕ) → provides_named u p n ≡ is_listed n state.provide
  pub demands : (n : List ℕ) → demand_named u p n ≡ greatest_count state.require n
  pub leads : (n : List ℕ) → leads_to u p n ≡ is_listed n state.next
