-- What a station takes, told from the lines alone.
--     is_at h k o      whether that is station k of line h
--     has_slot_at x h k p n      whether one of the slots of p from 1 to n is there
--     takes_port u s x q h k r      whether it is so of the slots that pair q demands of the port
--     takes u s x l j h k      whether station j of line l takes a port from there
--     is_taken u s x e h k      whether a supply from there is of a station that its line leaves by the event
use Rattle.std.specs.Prelude.{ℕ, ◌==◌, Bool, false, ◌&&◌, map, Option, slice_index_or}
use Rattle.std.specs.List.{list_any, range_with_len}
use Rattle.std.specs.Option.{option_map_or}
use Rattle.metis_universe.specs.Terms.{Universe, demand_of, required_of}
use Rattle.metis_ids.specs.declared.events.Event.{Event}
use Rattle.metis_lines.specs.Terms.{AbstractPlan, LifeLines, Supply, holder_of, leaving, line_at, plan_of, same_event, supplies_of}
use Rattle.metis_support.specs.Terms.{Support, provider_at}

abbrev pub is_at : ℕ → ℕ → Option (ℕ × ℕ) → Bool
is_at h k o = option_map_or (λ held. (held.0 == h) && (held.1 == k)) o false

abbrev pub has_slot_at : LifeLines → ℕ → ℕ → ℕ → ℕ → Bool
has_slot_at x h k p n = list_any (is_at h k) (map (holder_of x p) (range_with_len 1 n))

abbrev pub takes_port : Universe → Support → LifeLines → ℕ → ℕ → ℕ → ℕ → Bool
takes_port u s x q h k r = option_map_or (λ p. has_slot_at x h k p (demand_of u q r)) (provider_at s r) false

abbrev pub takes : Universe → Support → LifeLines → ℕ → ℕ → ℕ → ℕ → Bool
takes u s x l j h k = list_any (takes_port u s x (slice_index_or (line_at x l) j 0) h k) (required_of u (slice_index_or (line_at x l) j 0))

abbrev pub is_taken_by : AbstractPlan → Event → ℕ → ℕ → Supply → Bool
is_taken_by w e h k t = same_event (leaving w t.line t.station) e && ((t.holder == h) && (t.place == k))

abbrev pub is_taken : Universe → Support → LifeLines → Event → ℕ → ℕ → Bool
is_taken u s x e h k = list_any (is_taken_by (plan_of u s x) e h k) (supplies_of u s x)
