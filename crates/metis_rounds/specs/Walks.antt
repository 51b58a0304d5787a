-- Walks back over the stuck events, from the least of them again and again to the least that the last one waits for.
--     IsNotBelow w t e      no stuck event that passes stands before e
--     IsLeastBefore w f e      e is the least stuck event that has to come before f
--     step_at es k      place k, from 0, of the walk
--     IsApart es      no event stands in the walk twice
--     IsWalk w es      the walk is such a one so far
--     IsKept w es      where its last event is stuck, it is
--     HasMet met es, IsMet met es      met has exactly the steps;  and no event stands in the walk twice
--     place_in es e      the first place of the event, and the length where it has none
--     from_step e es      the steps from the event on
--     kept_count entry leaving es, kept_steps entry leaving es      how many steps stand before `leaving`, and before `entry` unless that is the first;  these steps
use Rattle.std.specs.Prelude.{ℕ, ◌≡◌, ◌≢◌, ◌<◌, ◌+◌, ◌==◌, Bool, List, length, take, drop, min, slice_index_or, IsTrue, IsFalse, if◌then◌else◌}
use Rattle.std.specs.List.{position_or_len}
use Rattle.std.specs.declared.cmp.Ordering.TheVariants.{Less}
use Rattle.metis_ids.specs.declared.events.Event.{Event}
use Rattle.metis_ids.specs.declared.events.Event.TheVariants.{End}
use Rattle.metis_lines.specs.Terms.{AbstractPlan, event_cmp, is_among, is_event, precedes, same_event}
use Rattle.metis_rounds.specs.Stuck.{is_stuck}

abbrev pub IsNotBelow : AbstractPlan → (Event → Bool) → Event → Type 0
IsNotBelow w t e = (a : Event) → IsTrue (is_stuck w a) → IsTrue (t a) → event_cmp a e ≢ Less

pub record IsLeastBefore (w : AbstractPlan) (f e : Event) : Type 0 where
  pub stuck : IsTrue (is_stuck w e)
  pub before : IsTrue (precedes w e f)
  pub least : IsNotBelow w (λ a. precedes w a f) e

abbrev pub step_at : List Event → ℕ → Event
step_at es k = slice_index_or es k End

abbrev pub IsApart : List Event → Type 0
IsApart es = (k : ℕ) → k < length es → IsFalse (is_among (take k es) (step_at es k))

pub record IsWalk (w : AbstractPlan) (es : List Event) : Type 0 where
  pub stuck : 0 < length es → IsTrue (is_stuck w (step_at es 0))
  pub first : 0 < length es → (a : Event) → IsTrue (is_stuck w a) → event_cmp a (step_at es 0) ≢ Less
  pub next : (k : ℕ) → k + 1 < length es → IsLeastBefore w (step_at es k) (step_at es (k + 1))
  pub apart : IsApart es

pub record IsKept (w : AbstractPlan) (es : List Event) : Type 0 where
  pub events : (k : ℕ) → k < length es → IsTrue (is_event w (step_at es k))
  pub first : 0 < length es → (a : Event) → IsTrue (is_stuck w a) → event_cmp a (step_at es 0) ≢ Less
  pub before : (k : ℕ) → k + 1 < length es → IsTrue (precedes w (step_at es (k + 1)) (step_at es k))
  pub least : (k : ℕ) → k + 1 < length es → IsNotBelow w (λ a. precedes w a (step_at es k)) (step_at es (k + 1))
  pub apart : IsApart es

abbrev pub HasMet : List Event → List Event → Type 0
HasMet met es = (e : Event) → is_among met e ≡ is_among es e

pub record IsMet (met es : List Event) : Type 0 where
  pub all : HasMet met es
  pub apart : IsApart es

abbrev pub place_in : List Event → Event → ℕ
place_in es e = position_or_len (same_event e) es

abbrev pub from_step : Event → List Event → List Event
from_step e es = drop (place_in es e) es

-- where the walk begins with the entry, it loses nothing by it
abbrev pub entry_place : Event → List Event → ℕ
entry_place entry es = if place_in es entry == 0 then length es else place_in es entry

abbrev pub kept_count : Event → Event → List Event → ℕ
kept_count entry leaving es = min (place_in es leaving) (entry_place entry es)

abbrev pub kept_steps : Event → Event → List Event → List Event
kept_steps entry leaving es = take (kept_count entry leaving es) es
