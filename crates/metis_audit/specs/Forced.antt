-- Whether a cycle forces a pair to have a line of its own, over any life lines.
--     next_around es i, turn es i      the event behind number i of a list, and the first behind the last;  both
--     is_exit w y i f e      whether the edge from e to f is a return into the move of line y out of station i
--     is_forced u s x p es      the list is a cycle over these lines, and leads the line that is slot 1 of p on
--     is_forced_at u s g ds i      dup i, from 0, is forced over the lines for the targets and the pairs of those before it
--     IsFirstUnforced u s g ds k      dup k, from 1, is the first that is not
use Rattle.std.specs.Prelude.{ℕ, ◌≤◌, ◌<◌, ◌+◌, ◌-◌, Bool, false, ◌&&◌, List, length, take, slice_get, slice_index_or, IsTrue, IsFalse}
use Rattle.std.specs.List.{list_all}
use Rattle.std.specs.Option.{option_map_or}
use Rattle.metis_ids.specs.declared.events.Event.{Event}
use Rattle.metis_ids.specs.declared.events.Event.TheVariants.{At, End}
use Rattle.metis_ids.specs.Terms.{Dup}
use Rattle.metis_universe.specs.Terms.{Universe}
use Rattle.metis_lines.specs.Terms.{AbstractPlan, LifeLines, holder_of, is_cycle, is_event, is_return, leads_on, lines_of, own_pairs, plan_of, same_event}
use Rattle.metis_support.specs.Terms.{Support}

abbrev pub next_around : List Event → ℕ → Event
next_around es i = slice_index_or es (i + 1) (slice_index_or es 0 End)

abbrev pub turn : List Event → ℕ → Event × Event
turn es i = (slice_index_or es i End, next_around es i)

abbrev pub is_exit : AbstractPlan → ℕ → ℕ → Event → Event → Bool
is_exit w y i f e = is_return w e f && same_event f (At y (i + 1))

abbrev pub is_forced : Universe → Support → LifeLines → ℕ → List Event → Bool
is_forced u s x p es =
    list_all (is_event (plan_of u s x)) es && is_cycle (plan_of u s x) es && option_map_or (λ held. leads_on (plan_of u s x) es held.0 held.1) (holder_of x p 1) false

abbrev pub is_forced_at : Universe → Support → List ℕ → List Dup → ℕ → Bool
is_forced_at u s g ds i = option_map_or (λ each. is_forced u s (lines_of u s g (own_pairs (take i ds))) each.pair each.cycle) (slice_get ds i) false

pub record IsFirstUnforced (u : Universe) (s : Support) (g : List ℕ) (ds : List Dup) (k : ℕ) : Type 0 where
  pub first : 1 ≤ k
  pub last : k ≤ length ds
  pub fails : IsFalse (is_forced_at u s g ds (k - 1))
  pub before : (i : ℕ) → i + 1 < k → IsTrue (is_forced_at u s g ds i)
