-- What the bytes of a document mean: a universe with all that IsTable says, or a fault that is no want of memory.
use Rattle.std.proofs.Common.{◌≡◌, ℕ, ◌+◌, Bool, true, false, cond, List, [], ◌∷◌, length, Option, Some, None, Result, Ok, Err, refl, subst, option_map, nat_lt}
use Rattle.std.specs.Prelude.{codes}
use Rattle.std.specs.Option.{option_or}
use Rattle.serde_json.specs.Data.{Data, Items, no_items, item}
use Rattle.metis_universe.proofs.FromRows.{IsTable-universe_from, is_by_sight}
use Rattle.metis_universe.specs.Terms.{IsBySight, IsOfVersion, IsTable, StateRow, TypeRow, Universe, demand_fault, earlier_type, first_fault, first_from, has_state, head_fault, is_between, is_name, limit_fault, link_fault, names_needed, next_fault, or_universe, port_fault, ports_of, require_total, state_fault, state_total, state_twice, type_fault, universe_from, unless}
use Rattle.metis_universe.specs.declared.faults.LimitKind.{LimitKind}
use Rattle.metis_universe.specs.declared.faults.LimitKind.TheVariants.{Pairs, Ports, Requires, States}
use Rattle.metis_universe.specs.declared.faults.RowFault.{RowFault}
use Rattle.metis_universe.specs.declared.faults.RowFault.TheVariants as row
use Rattle.metis_ujson.proofs.OfVersion.{rows_in-of_version}
use Rattle.metis_ujson.specs.Terms.{Spelled, fault_of_row, json_of, list_at, or_form_fault, or_row_fault, rows_in, rows_or_not_json, spelled, state_in, states_from, text_at, type_in, type_of_states, type_with, types_from, types_with, universe_in, version_in, with_state, with_type}
use Rattle.metis_ujson.specs.declared.faults.UFault.{UFault}
use Rattle.metis_ujson.specs.declared.faults.UFault.TheVariants.{NoMemory, StateForm}

-- ---- the rows that a value spells

module _ (row : Option StateRow) (fault : UFault) (rest : Result (List StateRow) UFault) (named : fault ≡ NoMemory → ⊥) (rest_named : rest ≡ Err NoMemory → ⊥) where
  with_state_named : with_state row fault rest ≡ Err NoMemory → ⊥
  with_state_named = elim row as (λ r. with_state r fault rest ≡ Err NoMemory → ⊥) [
    | None ↦ λ h. named (cc)
    | Some s ↦ elim rest as (λ r. (r ≡ Err NoMemory → ⊥) → with_state (Some s) fault r ≡ Err NoMemory → ⊥) [ Err later ↦ λ n h. n h | Ok rows ↦ λ n h. cc ] rest_named
  ]

states_named : (v t s : ℕ) (ds : Items) → states_from v t s ds ≡ Err NoMemory → ⊥
states_named v t s no_items h = cc
states_named v t s (item d ds) h = with_state_named (state_in v d) (StateForm t s) (states_from v t (s + 1) ds) (λ e. cc) (states_named v t (s + 1) ds) h

type_of_states_named : (name initial : List ℕ) (states : Result (List StateRow) UFault) → (states ≡ Err NoMemory → ⊥) → type_of_states name initial states ≡ Err NoMemory → ⊥
type_of_states_named name initial (Err fault) named h = named (cc)
type_of_states_named name initial (Ok states) named h = cc

type_with_named : (v t : ℕ) (name initial : Option (List ℕ)) (states : Option Items) → type_with v t name initial states ≡ Err NoMemory → ⊥
type_with_named v t None initial states h = cc
type_with_named v t (Some name) None states h = cc
type_with_named v t (Some name) (Some initial) None h = cc
type_with_named v t (Some name) (Some initial) (Some states) h = type_of_states_named name initial (states_from v t 0 states) (states_named v t 0 states) h

with_type_named : (row : Result TypeRow UFault) (rest : Result (List TypeRow) UFault) → (row ≡ Err NoMemory → ⊥) → (rest ≡ Err NoMemory → ⊥) → with_type row rest ≡ Err NoMemory → ⊥
with_type_named (Err fault) rest named rest_named h = named (cc)
with_type_named (Ok row) (Err later) named rest_named h = rest_named h
with_type_named (Ok row) (Ok rows) named rest_named h = cc

types_named : (v t : ℕ) (ds : Items) → types_from v t ds ≡ Err NoMemory → ⊥
types_named v t no_items h = cc
types_named v t (item d ds) h = with_type_named (type_in v t d) (types_from v (t + 1) ds) (type_with_named v t (text_at (codes "name") d) (text_at (codes "initial") d) (list_at (codes "states") d)) (types_named v (t + 1) ds) h

spelled_named : (v : ℕ) (types : Result (List TypeRow) UFault) → (types ≡ Err NoMemory → ⊥) → spelled v types ≡ Err NoMemory → ⊥
spelled_named v (Err fault) named h = named (cc)
spelled_named v (Ok types) named h = cc

types_with_named : (version : Option ℕ) (types : Option Items) → types_with version types ≡ Err NoMemory → ⊥
types_with_named None types h = cc
types_with_named (Some v) None h = cc
types_with_named (Some v) (Some types) h = spelled_named v (types_from v 0 types) (types_named v 0 types) h

rows_named : (json : Option Data) → rows_or_not_json json ≡ Err NoMemory → ⊥
rows_named None h = cc
rows_named (Some d) h = types_with_named (version_in d) _ h

-- ---- the first fault of rows

-- a fault that is found is no want of memory
abbrev IsNamed : Option RowFault → Type 0
IsNamed o = o ≡ Some row.NoMemory → ⊥

or_named : (a b : Option RowFault) → IsNamed a → IsNamed b → IsNamed (option_or a b)
or_named None b first second h = second h
or_named (Some fault) b first second h = first h

unless_named : (passes : Bool) (fault : RowFault) → (fault ≡ row.NoMemory → ⊥) → IsNamed (unless passes fault)
unless_named true fault named h = cc
unless_named false fault named h = named (cc)

map_named : (f : ℕ → RowFault) (o : Option ℕ) → ((n : ℕ) → f n ≡ row.NoMemory → ⊥) → IsNamed (option_map f o)
map_named f None named h = cc
map_named f (Some n) named h = named n (cc)

limit_named : (kind : LimitKind) (most count : ℕ) → IsNamed (limit_fault kind most count)
limit_named kind most count = elim (nat_lt most count) as (λ b. IsNamed (cond b (Some (row.Limit kind count)) None)) [ true ↦ λ h. cc | false ↦ λ h. cc ]

first_named : {A : Type 0} (place : ℕ) (test : ℕ → A → Option RowFault) (xs : List A) → ((k : ℕ) (x : A) → IsNamed (test k x)) → IsNamed (first_from place test xs)
first_named place test [] named h = cc
first_named place test (x ∷ xs) named h = or_named (test place x) (first_from (place + 1) test xs) (named place x) (first_named (place + 1) test xs named) h

state_fault_named : (r : TypeRow) (t s : ℕ) (state : StateRow) → IsNamed (state_fault r t s state)
state_fault_named r t s state =
    let port : (k : ℕ) (name : List ℕ) → IsNamed (port_fault t s k name) = λ k name. unless_named (is_name name) (row.PortName t s k) (λ e. cc) in
    or_named (unless (is_name state.name) (row.StateName t s)) _ (unless_named (is_name state.name) (row.StateName t s) (λ e. cc))
    (or_named (state_twice r t s state) _ (map_named (λ first. row.StateTwice t s first) _ (λ n e. cc))
    (or_named (first_from 0 (port_fault t s) state.provide) _ (first_named 0 (port_fault t s) state.provide port)
    (or_named (first_from (length state.provide) (port_fault t s) (names_needed state.require)) _ (first_named (length state.provide) (port_fault t s) (names_needed state.require) port)
    (first_named 0 (demand_fault t s) state.require (λ k need. unless_named (is_between 1 16 need.count) (row.Demand t s k) (λ e. cc))))))

next_fault_named : (r : TypeRow) (t s : ℕ) (state : StateRow) → IsNamed (next_fault r t s state)
next_fault_named r t s state = first_named 0 (λ k name. unless (has_state r name) (row.UnknownNext t s k)) state.next (λ k name. unless_named (has_state r name) (row.UnknownNext t s k) (λ e. cc))

link_fault_named : (t : ℕ) (r : TypeRow) → IsNamed (link_fault t r)
link_fault_named t r =
    or_named (unless (has_state r r.initial) (row.NoInitial t)) _ (unless_named (has_state r r.initial) (row.NoInitial t) (λ e. cc)) (first_named 0 (next_fault r t) r.states (next_fault_named r t))

head_fault_named : (earlier : Option ℕ) (t : ℕ) (r : TypeRow) → IsNamed (head_fault earlier t r)
head_fault_named earlier t r =
    or_named (unless (is_name r.name) (row.TypeName t)) _ (unless_named (is_name r.name) (row.TypeName t) (λ e. cc))
    (or_named (option_map (λ first. row.TypeTwice t first) earlier) _ (map_named (λ first. row.TypeTwice t first) earlier (λ n e. cc)) (limit_named States 64 (length r.states)))

type_fault_named : (rows : List TypeRow) (t : ℕ) (r : TypeRow) → IsNamed (type_fault rows t r)
type_fault_named rows t r =
    or_named (head_fault (earlier_type rows t r.name) t r) _ (head_fault_named (earlier_type rows t r.name) t r)
    (or_named (first_from 0 (state_fault r t) r.states) _ (first_named 0 (state_fault r t) r.states (state_fault_named r t))
    (or_named (limit_fault Requires 128 (require_total r)) _ (limit_named Requires 128 (require_total r)) (link_fault_named t r)))

first_fault_named : (rows : List TypeRow) → IsNamed (first_fault rows)
first_fault_named rows =
    or_named (first_from 0 (type_fault rows) rows) _ (first_named 0 (type_fault rows) rows (type_fault_named rows))
    (or_named (limit_fault Pairs 2000 (state_total rows)) _ (limit_named Pairs 2000 (state_total rows)) (limit_named Ports 4000 (length (ports_of rows))))

-- ---- the meaning of the bytes

fault_of_row_named : (fault : RowFault) → (fault ≡ row.NoMemory → ⊥) → fault_of_row fault ≡ NoMemory → ⊥
fault_of_row_named (row.TypeName t) named h = cc
fault_of_row_named (row.TypeTwice t first) named h = cc
fault_of_row_named (row.StateName t s) named h = cc
fault_of_row_named (row.StateTwice t s first) named h = cc
fault_of_row_named (row.NoInitial t) named h = cc
fault_of_row_named (row.UnknownNext t s k) named h = cc
fault_of_row_named (row.PortName t s k) named h = cc
fault_of_row_named (row.Demand t s k) named h = cc
fault_of_row_named (row.Limit kind count) named h = cc
fault_of_row_named row.NoMemory named h = named refl

made_named : (o : Option RowFault) (u : Universe) → IsNamed o → or_row_fault (or_universe o u) ≡ Err NoMemory → ⊥
made_named None u named h = cc
made_named (Some fault) u named h = fault_of_row_named fault (λ e. named (cc)) (cc)

meant_named : (r : Result Spelled UFault) → (r ≡ Err NoMemory → ⊥) → or_form_fault r ≡ Err NoMemory → ⊥
meant_named (Err fault) named h = named (cc)
meant_named (Ok s) named h = made_named (first_fault s.types) (universe_from s.version s.types) (first_fault_named s.types) h

-- a fault of a document is no want of memory
pub universe_in_named : (bytes : List ℕ) → universe_in bytes ≡ Err NoMemory → ⊥
universe_in_named bytes h = meant_named (rows_in bytes) (rows_named (json_of bytes)) h

made_table : (s : Spelled) → IsOfVersion s.version s.types → (o : Option RowFault) (u : Universe) → first_fault s.types ≡ o → or_row_fault (or_universe o (universe_from s.version s.types)) ≡ Ok u → IsTable u
made_table s fits None u is h = let same : universe_from s.version s.types ≡ u = cc in subst IsTable same (IsTable-universe_from s.version s.types fits is)
made_table s fits (Some fault) u is h = cc

meant_table : (r : Result Spelled UFault) (u : Universe) → ((s : Spelled) → r ≡ Ok s → IsOfVersion s.version s.types) → or_form_fault r ≡ Ok u → IsTable u
meant_table (Err fault) u fits h = cc
meant_table (Ok s) u fits h = made_table s (fits s refl) (first_fault s.types) u refl h

-- a universe that is read has what IsTable says
pub universe_in_table : (bytes : List ℕ) (u : Universe) → universe_in bytes ≡ Ok u → IsTable u
universe_in_table bytes u h = meant_table (rows_in bytes) u (rows_in-of_version bytes) h

made_by_sight : (s : Spelled) → (o : Option RowFault) (u : Universe) → first_fault s.types ≡ o → or_row_fault (or_universe o (universe_from s.version s.types)) ≡ Ok u → IsBySight u
made_by_sight s None u is h = let same : universe_from s.version s.types ≡ u = cc in subst IsBySight same (is_by_sight s.version s.types is)
made_by_sight s (Some fault) u is h = cc

meant_by_sight : (r : Result Spelled UFault) (u : Universe) → or_form_fault r ≡ Ok u → IsBySight u
meant_by_sight (Err fault) u h = cc
meant_by_sight (Ok s) u h = made_by_sight s (first_fault s.types) u refl h

-- and its ports stand in the order in which they are first seen
pub universe_in_by_sight : (bytes : List ℕ) (u : Universe) → universe_in bytes ≡ Ok u → IsBySight u
universe_in_by_sight bytes u h = meant_by_sight (rows_in bytes) u h
