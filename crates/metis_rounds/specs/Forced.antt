-- The dup that a cycle of events forces.
--     cycle_of_events w      the events of the cycle, where there is one
--     left_by w e      the pair that a move leaves
--     place_after n k      the place that follows place k around a list of so many
--     doubled_by w es      the pair that is left by the first event of the list with a return edge into it, as a move, from the next
--     IsForced w d      the events have a cycle, it is the dup's, and the dup's pair is the one that is doubled by it
use Rattle.std.specs.Prelude.{ℕ, zero, suc, ◌≡◌, ◌+◌, nat_lt, if◌then◌else◌, List, map, Option, Some, None}
use Rattle.std.specs.List.{find}
use Rattle.std.specs.Option.{option_and_then}
use Rattle.metis_ids.specs.Terms.{Dup, HasCycle, cycle_of}
use Rattle.metis_ids.specs.declared.events.Event.{Event}
use Rattle.metis_ids.specs.declared.events.Event.TheVariants.{At, End}
use Rattle.metis_lines.specs.Terms.{AbstractPlan, around, is_return_into_move, station_at}
use Rattle.metis_events.specs.Terms.{dag_of, graph_of, nth_event}

abbrev pub cycle_of_events : AbstractPlan → List Event
cycle_of_events w = map (nth_event w) (cycle_of (dag_of (graph_of w)))

abbrev pub left_by : AbstractPlan → Event → Option ℕ
left_by w (At l zero) = None
left_by w (At l (suc i)) = Some (station_at w l i)
left_by w End = None

abbrev pub place_after : ℕ → ℕ → ℕ
place_after n k = if nat_lt (k + 1) n then k + 1 else 0

abbrev pub doubled_by : AbstractPlan → List Event → Option ℕ
doubled_by w es = option_and_then (λ c. left_by w c.0) (find (λ c. is_return_into_move w c.1 c.0) (around es))

pub record IsForced (w : AbstractPlan) (d : Dup) : Type 0 where
  pub stuck : HasCycle (dag_of (graph_of w))
  pub cycle : d.cycle ≡ cycle_of_events w
  pub pair : doubled_by w d.cycle ≡ Some d.pair
