-- Tables from which the predecessors of an event are read.
--     uses_of u s q      the slots that a pair takes, port by port: each a provider pair and the number of the slot, from 1
--     HasUses u s t      a table by pair has these for each selected pair
--     Rows      a table of lists by event: for each line, for each of its steps
--     row_at t e      what a table of lists by event has for the event; none for the end
--     has_row t e      whether the table has a list for the event
--     HasRows w t      it has one for each event of the graph but the end
--     HasReturns w t      it has for each event those from which return edges lead into it
--     HasTables o t      the tables are those of the lines
--     Empties e t v      in v the list of e is empty, and each other is as in t
--     HasGrown t v e      in v the list of each event but e begins as in t
use Rattle.std.specs.Prelude.{ℕ, ◌≡◌, Bool, false, ◌&&◌, nat_lt, List, [], ◌++◌, length, map, slice_index_or, IsTrue, IsFalse}
use Rattle.std.specs.List.{flat_map, range_with_len}
use Rattle.std.specs.Option.{option_map_or}
use Rattle.metis_ids.specs.declared.events.Event.{Event}
use Rattle.metis_ids.specs.declared.events.Event.TheVariants.{At, End}
use Rattle.metis_universe.specs.Terms.{Universe, demand_of, required_of}
use Rattle.metis_support.specs.Terms.{Support, is_selected, provider_at}
use Rattle.metis_lines.specs.Terms.{AbstractPlan, Over, graph_over, is_among, is_event, is_return, same_event}
use Rattle.metis_rounds.specs.declared.tables.Tables.{Tables}

abbrev pub port_uses : Universe → Support → ℕ → ℕ → List (ℕ × ℕ)
port_uses u s q r = option_map_or (λ p. map (λ k. (p, k)) (range_with_len 1 (demand_of u q r))) (provider_at s r) []

abbrev pub uses_of : Universe → Support → ℕ → List (ℕ × ℕ)
uses_of u s q = flat_map (port_uses u s q) (required_of u q)

abbrev pub HasUses : Universe → Support → List (List (ℕ × ℕ)) → Type 0
HasUses u s t = (q : ℕ) → IsTrue (is_selected s q) → slice_index_or t q [] ≡ uses_of u s q

abbrev pub Rows : Type 0
Rows = List (List (List Event))

abbrev pub row_at : Rows → Event → List Event
row_at t (At l j) = slice_index_or (slice_index_or t l []) j []
row_at t End = []

abbrev pub has_row : Rows → Event → Bool
has_row t (At l j) = nat_lt l (length t) && nat_lt j (length (slice_index_or t l []))
has_row t End = false

pub record HasRows (w : AbstractPlan) (t : Rows) : Type 0 where
  pub count : length t ≡ length w.lines
  pub rows : (l j : ℕ) → IsTrue (is_event w (At l j)) → IsTrue (has_row t (At l j))

pub record HasReturns (w : AbstractPlan) (t : Rows) : Type 0 where
  pub rows : HasRows w t
  pub each : (e f : Event) → is_among (row_at t f) e ≡ is_return w e f

-- the list of each event but e begins as it was
abbrev pub HasGrown : Rows → Rows → Event → Type 0
HasGrown t v e = (f : Event) → IsFalse (same_event f e) → (more : List Event) × (row_at v f ≡ row_at t f ++ more)

pub record HasTables (o : Over) (t : Tables) : Type 0 where
  pub uses : HasUses o.universe o.support t.uses
  pub returns : HasReturns (graph_over o) t.returns

pub record Empties (e : Event) (t v : Rows) : Type 0 where
  pub count : length v ≡ length t
  pub has : (f : Event) → has_row v f ≡ has_row t f
  pub emptied : row_at v e ≡ []
  pub others : (f : Event) → IsFalse (same_event f e) → row_at v f ≡ row_at t f
