-- What clauses and proofs cite of this crate, by one module.
pub use Rattle.metis_lines.specs.AbstractPlan.{AbstractPlan, IsWithin, Supply, is_supplied, is_target, is_there, last, line_count, station_at, stations, supply_cmp}
pub use Rattle.metis_lines.specs.Events.{IsOrder, IsOrderAfter, around, event_cmp, events, events_of, has_return_into_move, is_among, is_cycle, is_end, is_event, is_go, is_move, is_return, is_return_into_move, is_return_of, is_start, is_start_of, leaving, precedes, predecessors, same_event, step_count, with_next}
pub use Rattle.metis_lines.specs.Justified.{graph_for, is_justified, is_justified_at, is_justified_by, leads_on, lines_for, own_pairs}
pub use Rattle.metis_lines.specs.LifeLines.{AreApart, AreLines, LifeLines, ends_in, first_count, first_line, first_lines, goes_through, holder_line, holder_of, holding, is_loose, is_origin, later_ends, line_at, line_ends, line_supplies, lines_by, lines_of, loose, other_ends, plan_of, port_supplies, slot_holding, slot_line, slot_supplies, slots, slots_of, station_supplies, supplies_of, supply_from}
pub use Rattle.metis_lines.specs.Over.{IsOver, Over, graph_over, over_of}
pub use Rattle.metis_lines.specs.Soundness.{HasOneHolder, IsFormed, IsListed, IsServed, IsSound, Rises, StandsOnLower}
pub use Rattle.metis_lines.specs.Tables.{AreHeld, AreSeconds, IsLineOf, IsTabled, first_held, first_holder, first_slot, goes_on, held_by, on_line}
