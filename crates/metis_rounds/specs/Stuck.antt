-- Events that wait for one another.
--     has_before w es f      whether some event of es leads to f
--     IsHeldUp w es      each event of es is one of the graph, and has a predecessor in es
--     stuck_events w      the stuck events, in order: what is left of all events after as many rounds as there are events, where each round leaves those that have a predecessor among what is left
--     is_stuck w e      whether the event is one of them
--     IsStuck w es      es is the greatest set of events each of which has a predecessor in the set
use Rattle.std.specs.Prelude.{ℕ, zero, suc, Bool, List, length, IsTrue}
use Rattle.std.specs.List.{filter, list_any}
use Rattle.metis_ids.specs.declared.events.Event.{Event}
use Rattle.metis_lines.specs.Terms.{AbstractPlan, events, is_among, is_event, precedes}

abbrev pub has_before : AbstractPlan → List Event → Event → Bool
has_before w es f = list_any (λ e. precedes w e f) es

pub record IsHeldUp (w : AbstractPlan) (es : List Event) : Type 0 where
  pub events : (e : Event) → IsTrue (is_among es e) → IsTrue (is_event w e)
  pub before : (e : Event) → IsTrue (is_among es e) → IsTrue (has_before w es e)

abbrev pub with_before : AbstractPlan → List Event → List Event
with_before w es = filter (has_before w es) es

abbrev pub stuck_within : AbstractPlan → ℕ → List Event
stuck_within w zero = events w
stuck_within w (suc k) = with_before w (stuck_within w k)

abbrev pub stuck_events : AbstractPlan → List Event
stuck_events w = stuck_within w (length (events w))

abbrev pub is_stuck : AbstractPlan → Event → Bool
is_stuck w e = is_among (stuck_events w) e

pub record IsStuck (w : AbstractPlan) (es : List Event) : Type 0 where
  pub held_up : IsHeldUp w es
  pub greatest : (fs : List Event) → IsHeldUp w fs → (e : Event) → IsTrue (is_among fs e) → IsTrue (is_among es e)
