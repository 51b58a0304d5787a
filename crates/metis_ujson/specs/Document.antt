-- What a universe document means.
--     document_limit      how many bytes a document has at most
--     json_of bytes      the JSON value of the bytes, where a last line feed is left off, if there is one
--     Spelled      a version, and the rows of types
--     need_in version d      an entry of required ports
--     rows_of d, rows_in bytes      the version and the rows that the value, or the bytes, spell, or the first place whose form is wrong
--     fault_of_row fault      a fault of the rows, as a fault of the document
--     universe_in bytes      the universe that the bytes mean, or why they mean none: a wrong form first, then a fault of the rows
use Rattle.std.specs.Prelude.{ℕ, ◌+◌, ◌-◌, ◌==◌, ◌||◌, List, [], ◌∷◌, length, take, Option, Some, None, option_and_then, Result, Ok, Err, if◌then◌else◌, codes, slice_index}
use Rattle.std.specs.Str.{is_utf8}
use Rattle.serde_json.specs.Data.{Data, Items, no_items, item}
use Rattle.serde_json.specs.Find.{get, as_str, as_array, as_number, as_u64}
use Rattle.serde_json.specs.Read.{read}
use Rattle.metis_universe.specs.Terms.{NeedRow, StateRow, TypeRow, Universe, meaning_of}
use Rattle.metis_universe.specs.declared.faults.RowFault.{RowFault}
use Rattle.metis_universe.specs.declared.faults.RowFault.TheVariants as row
use Rattle.metis_ujson.specs.declared.faults.UFault.{UFault}
use Rattle.metis_ujson.specs.declared.faults.UFault.TheVariants.{NotJson, NotUniverse, TypeForm, TypeName, TypeTwice, StateForm, StateName, StateTwice, NoInitial, UnknownNext, PortName, Demand, Limit, NoMemory}

abbrev pub document_limit : ℕ
document_limit = 4194304

-- the bytes without a last line feed
abbrev pub without_last_newline : List ℕ → List ℕ
without_last_newline bytes = if slice_index bytes (length bytes - 1) == 10 then take (length bytes - 1) bytes else bytes

abbrev pub json_of_text : List ℕ → Option Data
json_of_text text = if is_utf8 text then read text else None

abbrev pub json_of : List ℕ → Option Data
json_of bytes = json_of_text (without_last_newline bytes)

-- ---- forms

-- a version, and the rows of types
pub record Spelled : Type 0 where
  pub version : ℕ
  pub types : List TypeRow

abbrev pub with_first : {A : Type 0} → Option A → Option (List A) → Option (List A)
with_first None rest = None
with_first (Some x) None = None
with_first (Some x) (Some xs) = Some (x ∷ xs)

-- the texts of a list of texts
abbrev pub texts_in : Items → Option (List (List ℕ))
texts_in no_items = Some []
texts_in (item d ds) = with_first (as_str d) (texts_in ds)

-- the texts of a list of texts that may be missing
abbrev pub texts_or_none : Option Data → Option (List (List ℕ))
texts_or_none None = Some []
texts_or_none (Some d) = option_and_then texts_in (as_array d)

abbrev pub text_at : List ℕ → Data → Option (List ℕ)
text_at key d = option_and_then as_str (get key d)

abbrev pub list_at : List ℕ → Data → Option Items
list_at key d = option_and_then as_array (get key d)

abbrev pub number_at : List ℕ → Data → Option ℕ
number_at key d = option_and_then as_u64 (option_and_then as_number (get key d))

abbrev pub need_with : Option (List ℕ) → Option ℕ → Option NeedRow
need_with None count = None
need_with (Some port) None = None
need_with (Some port) (Some count) = Some (record { port = port; count = count })

abbrev pub need_object : ℕ → Data → Option NeedRow
need_object version d = if version == 2 then need_with (text_at (codes "port") d) (number_at (codes "count") d) else None

abbrev pub text_or_object : Option (List ℕ) → Option NeedRow → Option NeedRow
text_or_object None need = need
text_or_object (Some port) need = Some (record { port = port; count = 1 })

-- an entry of required ports: a text, which asks for one provider, or in version 2 an object with a text `port` and a whole number `count`
abbrev pub need_in : ℕ → Data → Option NeedRow
need_in version d = text_or_object (as_str d) (need_object version d)

-- the entries of a list of them
abbrev pub needs_in : ℕ → Items → Option (List NeedRow)
needs_in version no_items = Some []
needs_in version (item d ds) = with_first (need_in version d) (needs_in version ds)

-- those of a list that may be missing
abbrev pub needs_or_none : ℕ → Option Data → Option (List NeedRow)
needs_or_none version None = Some []
needs_or_none version (Some d) = option_and_then (needs_in version) (as_array d)

abbrev pub state_with : Option (List ℕ) → Option (List (List ℕ)) → Option (List NeedRow) → Option (List (List ℕ)) → Option StateRow
state_with None provide require next = None
state_with (Some name) None require next = None
state_with (Some name) (Some provide) None next = None
state_with (Some name) (Some provide) (Some require) None = None
state_with (Some name) (Some provide) (Some require) (Some next) = Some (record { name = name; provide = provide; require = require; next = next })

-- a state: an object with a text `name`, and, where they are there, with lists of texts `provide` and `next` and a list of entries `require`
abbrev pub state_in : ℕ → Data → Option StateRow
state_in version d =
    state_with (text_at (codes "name") d) (texts_or_none (get (codes "provide") d)) (needs_or_none version (get (codes "require") d)) (texts_or_none (get (codes "next") d))

abbrev pub with_state : Option StateRow → UFault → Result (List StateRow) UFault → Result (List StateRow) UFault
with_state None fault rest = Err fault
with_state (Some row) fault (Err later) = Err later
with_state (Some row) fault (Ok rows) = Ok (row ∷ rows)

-- the states of type t from place s on
abbrev pub states_from : ℕ → ℕ → ℕ → Items → Result (List StateRow) UFault
states_from version t s no_items = Ok []
states_from version t s (item d ds) = with_state (state_in version d) (StateForm t s) (states_from version t (s + 1) ds)

abbrev pub type_of_states : List ℕ → List ℕ → Result (List StateRow) UFault → Result TypeRow UFault
type_of_states name initial (Err fault) = Err fault
type_of_states name initial (Ok states) = Ok (record { name = name; initial = initial; states = states })

abbrev pub type_with : ℕ → ℕ → Option (List ℕ) → Option (List ℕ) → Option Items → Result TypeRow UFault
type_with version t None initial states = Err (TypeForm t)
type_with version t (Some name) None states = Err (TypeForm t)
type_with version t (Some name) (Some initial) None = Err (TypeForm t)
type_with version t (Some name) (Some initial) (Some states) = type_of_states name initial (states_from version t 0 states)

-- type t: an object with a text `name`, a text `initial` and a list `states`; then its states
abbrev pub type_in : ℕ → ℕ → Data → Result TypeRow UFault
type_in version t d = type_with version t (text_at (codes "name") d) (text_at (codes "initial") d) (list_at (codes "states") d)

abbrev pub with_type : Result TypeRow UFault → Result (List TypeRow) UFault → Result (List TypeRow) UFault
with_type (Err fault) rest = Err fault
with_type (Ok row) (Err later) = Err later
with_type (Ok row) (Ok rows) = Ok (row ∷ rows)

-- the types from place t on
abbrev pub types_from : ℕ → ℕ → Items → Result (List TypeRow) UFault
types_from version t no_items = Ok []
types_from version t (item d ds) = with_type (type_in version t d) (types_from version (t + 1) ds)

abbrev pub one_or_two : Option ℕ → Option ℕ
one_or_two None = None
one_or_two (Some n) = if (n == 1) || (n == 2) then Some n else None

-- the version, where `aeolus` is the whole number 1 or 2
abbrev pub version_in : Data → Option ℕ
version_in d = one_or_two (number_at (codes "aeolus") d)

abbrev pub spelled : ℕ → Result (List TypeRow) UFault → Result Spelled UFault
spelled version (Err fault) = Err fault
spelled version (Ok types) = Ok (record { version = version; types = types })

abbrev pub types_with : Option ℕ → Option Items → Result Spelled UFault
types_with None types = Err NotUniverse
types_with (Some version) None = Err NotUniverse
types_with (Some version) (Some types) = spelled version (types_from version 0 types)

-- a universe: an object whose `aeolus` is 1 or 2, with a list `types`; then its types
abbrev pub rows_of : Data → Result Spelled UFault
rows_of d = types_with (version_in d) (list_at (codes "types") d)

abbrev pub rows_or_not_json : Option Data → Result Spelled UFault
rows_or_not_json None = Err NotJson
rows_or_not_json (Some d) = rows_of d

-- the version and the rows that the bytes spell
abbrev pub rows_in : List ℕ → Result Spelled UFault
rows_in bytes = rows_or_not_json (json_of bytes)

-- ---- meaning

-- the fault of the same name
abbrev pub fault_of_row : RowFault → UFault
fault_of_row (row.TypeName t) = TypeName t
fault_of_row (row.TypeTwice t first) = TypeTwice t first
fault_of_row (row.StateName t s) = StateName t s
fault_of_row (row.StateTwice t s first) = StateTwice t s first
fault_of_row (row.NoInitial t) = NoInitial t
fault_of_row (row.UnknownNext t s k) = UnknownNext t s k
fault_of_row (row.PortName t s k) = PortName t s k
fault_of_row (row.Demand t s k) = Demand t s k
fault_of_row (row.Limit kind count) = Limit kind count
fault_of_row row.NoMemory = NoMemory

abbrev pub or_row_fault : Result Universe RowFault → Result Universe UFault
or_row_fault (Ok u) = Ok u
or_row_fault (Err fault) = Err (fault_of_row fault)

-- the universe that rows stand for
abbrev pub rows_made : Spelled → Result Universe UFault
rows_made s = or_row_fault (meaning_of s.version s.types)

abbrev pub or_form_fault : Result Spelled UFault → Result Universe UFault
or_form_fault (Err fault) = Err fault
or_form_fault (Ok s) = rows_made s

-- the universe that the bytes mean
abbrev pub universe_in : List ℕ → Result Universe UFault
universe_in bytes = or_form_fault (rows_in bytes)
