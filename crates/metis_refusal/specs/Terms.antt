-- What clauses and proofs cite of this crate, by one module.
pub use Rattle.metis_refusal.specs.Claims.{HasFree, HasGoals, IsLeastUnfree, IsLeastWayOut, IsWayOut, NamesOf, Tells, first_unfree, first_way_out, has_way_out, is_unfree, is_way, lacked, verdict, verdict_by, way_out}
pub use Rattle.metis_refusal.specs.Supplies.{AreProvided, AreSupplied, flag}
