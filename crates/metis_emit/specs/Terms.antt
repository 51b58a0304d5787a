-- What clauses and proofs cite of this crate, by one module.
pub use Rattle.metis_emit.specs.Emission.{before_end, binds, emission, event_actions, gained, move_actions, supplies_at, unbinds}
pub use Rattle.metis_emit.specs.PortActions.{port_move, port_ties, slot_ties}
pub use Rattle.metis_emit.specs.Realized.{IsEndLate, IsLeastAfter, IsLeastOrder, Realizes, can_go, entered, entered_by, target_pairs}
