-- The one document that is written for a universe.
--     rows_of_universe u      its types with their states, and all names that they give: ports in ascending order of their numbers,
--                             next states in that of their pairs
--     document_of version rows      the JSON value that spells the rows; the keys of each object ascend, and each key is there;
--                             an entry of required ports is the port's name where it asks for one provider, else an object
--     canonical u      its text with no space, and a line feed at the end
use Rattle.std.specs.Prelude.{ℕ, ◌==◌, List, [], ◌∷◌, ◌++◌, map, codes, if◌then◌else◌}
use Rattle.std.specs.List.{range_with_len}
use Rattle.serde_json.specs.Data.{Data, unsigned, number, string, array, object, no_members, member}
use Rattle.serde_json.specs.View.{items_of}
use Rattle.serde_json.specs.Written.{compact_text}
use Rattle.metis_universe.specs.Terms.{NeedRow, Pair, StateRow, TypeRow, Universe, demand_in, initial_of, port_name_of, state_name_of, states_of_type, type_count, type_name_of}

-- ---- the rows of a universe

abbrev pub need_row : Universe → Pair → ℕ → NeedRow
need_row u p r = record { port = port_name_of u r; count = demand_in p r }

abbrev pub state_row : Universe → Pair → StateRow
state_row u p = record {
  name = p.state;
  provide = map (port_name_of u) p.provided;
  require = map (need_row u p) p.required;
  next = map (state_name_of u) p.next;
}

abbrev pub type_row : Universe → ℕ → TypeRow
type_row u t = record {
  name = type_name_of u t;
  initial = state_name_of u (initial_of u t);
  states = map (state_row u) (states_of_type u t);
}

abbrev pub rows_of_universe : Universe → List TypeRow
rows_of_universe u = map (type_row u) (range_with_len 0 (type_count u))

-- ---- the value that spells rows

-- the list of the values of these elements
abbrev pub list_of : {A : Type 0} → (A → Data) → List A → Data
list_of value xs = array (items_of (map value xs))

abbrev pub counted_value : NeedRow → Data
counted_value need =
    object (member (codes "count") (number (unsigned need.count))
    (member (codes "port") (string need.port)
    no_members))

abbrev pub need_value : NeedRow → Data
need_value need = if need.count == 1 then string need.port else counted_value need

abbrev pub state_value : StateRow → Data
state_value row =
    object (member (codes "name") (string row.name)
    (member (codes "next") (list_of string row.next)
    (member (codes "provide") (list_of string row.provide)
    (member (codes "require") (list_of need_value row.require)
    no_members))))

abbrev pub type_value : TypeRow → Data
type_value row =
    object (member (codes "initial") (string row.initial)
    (member (codes "name") (string row.name)
    (member (codes "states") (list_of state_value row.states)
    no_members)))

abbrev pub document_of : ℕ → List TypeRow → Data
document_of version rows =
    object (member (codes "aeolus") (number (unsigned version))
    (member (codes "types") (list_of type_value rows)
    no_members))

-- ---- its text

abbrev pub canonical : Universe → List ℕ
canonical u = compact_text (document_of u.version (rows_of_universe u)) ++ 10 ∷ []
