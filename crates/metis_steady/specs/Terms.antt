-- What clauses and proofs cite of this crate, by one module.
pub use Rattle.metis_steady.specs.Followed.{IsFollowed}
pub use Rattle.metis_steady.specs.Steady.{HasBadAction, HasLooseAction, IsSteady, IsUnsteady, IsUnsteadyIn, TellsUnsteady, bad_line, loose_line, standing_after}
