-- What clauses and proofs cite of this crate, by one module.
pub use Rattle.metis_audit.specs.Audits.{IsAnswer, IsAttained, IsAudited, IsCounted, IsFirstOff, IsFirstOther, IsFirstUnjustified, IsFollowed, IsForced, IsMiscount, IsSteady, audited_lines, follows}
pub use Rattle.metis_audit.specs.Doubled.{IsDoubled}
pub use Rattle.metis_audit.specs.Forced.{IsFirstUnforced, is_exit, is_forced, is_forced_at, next_around, turn}
pub use Rattle.metis_audit.specs.Leaving.{IsLeft, IsNoLeaving, IsTakenByNoTarget, IsTakenByTarget}
pub use Rattle.metis_audit.specs.Takes.{has_slot_at, is_at, is_taken, is_taken_by, takes, takes_port}
pub use Rattle.metis_audit.specs.Walks.{AreWalks, IsFirstAstray, IsWalk, entry_of}
