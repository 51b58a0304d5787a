-- What clauses and proofs cite of this crate, by one module.
pub use Rattle.metis_layers.specs.Counters.{Counters, IsSettled, IsTallied, Leads, Meets, comes, unmet_of}
pub use Rattle.metis_layers.specs.LayerOrder.{Deploys, attained_pairs, instances_of, is_provider, is_standing, layer_order, line_ends, path_to, path_within, place_of, slot_holder, standing_pairs}
pub use Rattle.metis_layers.specs.Layers.{IsLayers, Layers, first_at, found_before, is_round, layer_at, of_round, order_by}
pub use Rattle.metis_layers.specs.Reading.{counted_bound, offer_cost, require_entries, total, unoffered, unvisited, visit_cost}
pub use Rattle.metis_layers.specs.SlotLines.{slot_binds, slot_line, slot_lines, slot_move, slot_moves, slot_unbinds, slots_above, slots_gained}
pub use Rattle.metis_layers.specs.Work.{IsAt, IsCounting, IsRead, IsTally, Provides, come_before, new_at, offers_left, work_left}
