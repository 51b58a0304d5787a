-- What clauses and proofs cite of this crate, by one module.
pub use Rattle.metis_rollout.specs.Guarded.{GoesOnGuarded, HasEach, IsBeside, IsGuarded, IsGuardedAt, KeepsStanding, NeverLacks, Spares, StandsIn, TakesLate, border, takes_from}
pub use Rattle.metis_rollout.specs.Holders.{AreFew, IsScaffoldIn, TellsTruly, ends_among, first_among, holder_at}
pub use Rattle.metis_rollout.specs.Removal.{AreFree, CanTake, GoesApart, IsNamed, IsWithout, MayGo, Removing, taking}
pub use Rattle.metis_rollout.specs.Rolled.{IsRollout}
pub use Rattle.metis_rollout.specs.Rollout.{all_but, all_go, among, bind, cleared_by, cleared_of, cycle_removal, deletes, downward, ends_first, first_unbinds, free_number, fresh_name, idle_unbinds, is_idle, is_referenced, left_of, made_by, members, named, news_of, next_free, next_unreferenced, pairs_in, removal, renumber, renumbered, rollout, scaffold_bindings, scaffold_ends, scaffold_holder, scaffold_list, scaffold_name, scaffold_pairs, slot_count, slots_required, unbind, unreferenced_deletes, unreferenced_deletes_within, untied_of}
pub use Rattle.metis_rollout.specs.Standing.{AreLeast, AreTogether, IsCleared, IsRenamed, IsUntied, is_made}
pub use Rattle.metis_rollout.specs.Unreferenced.{AreUnreferenced, AreUnreferencedBut, is_unreferenced}
