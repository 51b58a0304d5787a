-- What clauses and proofs cite of this crate, by one module.
pub use Rattle.metis_place.specs.Entries.{Entries, entries_of, has_name, number_of}
pub use Rattle.metis_place.specs.FirstPlace.{first_place}
pub use Rattle.metis_place.specs.Holding.{AreAt, HoldingLists, HostTally, IsHolding, deletes_by, frees, tally_at}
pub use Rattle.metis_place.specs.HostsFaults.{IsBegun, IsHostsFault, NoFeed, begun_bytes, in_first, in_later, of_first, of_line, past_end, too_short}
pub use Rattle.metis_place.specs.HostsFlaws.{EntryKind, IsFormed, IsHostsFlaw, IsInRange, IsTypeThere, MayStand, earlier, entry_words, next_number, of_host, of_size}
pub use Rattle.metis_place.specs.HostsText.{ReadsHosts, SeenLines, end_from, entry_in, host_line_rules, hosts_in, hosts_of, is_last, lines_from, nothing, seen_lines, sizes_of, text_of, with_entry, with_host, with_line, with_size, with_tokens, with_words}
pub use Rattle.metis_place.specs.HostsWritten.{IsEntry, IsHostsText, IsTextOf, are_apart, each_new, host_line, hosts_bytes, hosts_header, hosts_lines, size_line}
pub use Rattle.metis_place.specs.Placement.{HostLists, IfNoRoom, IsHeld, IsHeldFrom, IsNoRoom, IsPlacing, PlacingLists, Seat, candidates, deletes_on, free_rooms, freed, freed_by, further, has_room, hold_of, host_for, is_enough, is_here, is_here_after, is_here_from, is_new, is_placed, is_placed_at, load, made_size, name_of, room_of, seat, seat_at, seat_for, seat_of, seats, seats_by, shortest, size_of, total}
pub use Rattle.metis_place.specs.Rooms.{IsRooms, rooms}
pub use Rattle.metis_place.specs.Seated.{instance_made, instances_made}
pub use Rattle.metis_place.specs.Settled.{IsSettled}
pub use Rattle.metis_place.specs.Shortest.{freed_sum, shortest_deletes}
