-- What clauses and proofs cite of this crate, by one module.
pub use Rattle.metis_reconfigure.specs.Aims.{AreAims, AreAimsOf, IsBar, IsFound, IsGround, IsGroundOf, IsList, IsMadeBeside}
pub use Rattle.metis_reconfigure.specs.Answerable.{AreMet, IsAnswerable, is_absent, is_firm, is_unavoidable}
pub use Rattle.metis_reconfigure.specs.Answers.{AreThere, AreWithin, IsLeastRoot, IsObstacle, IsReconfigured, IsTold, absent, firm_leaving, first_unavoidable, passing}
pub use Rattle.metis_reconfigure.specs.Kept.{ActsBeside, GoesWell, IsAnswered, IsJoined, LeavesAlone, TakesOldLate, after_old, at_border, at_end, binds_at, is_bind, is_kept, rebinds_in, taken_away}
pub use Rattle.metis_reconfigure.specs.Missing.{lack, lacking, missing, missing_behind, pair_for, providers_short, rebound_in, serving_among, short, targets, targets_behind, wanted, wants}
pub use Rattle.metis_reconfigure.specs.NewOnes.{IsNew, LeanRightly, NewOnesAct}
pub use Rattle.metis_reconfigure.specs.Reached.{AreReached, Edge, IsClosed, IsFollowed, IsReached, IsUnderWay, has_edge, next, start}
pub use Rattle.metis_reconfigure.specs.Rebinding.{candidates, fresh_givers, named_targets, rebinds, rebinds_at, rebinds_of}
pub use Rattle.metis_reconfigure.specs.Reconfiguration.{Reconfiguration, before_removal, fresh_actions, joined, left_by, rebound_actions, reconfigured}
pub use Rattle.metis_reconfigure.specs.Settled.{AreLeaving, dependents, given, gives, is_root, leads_up, left_to_plan, roots, settled, stands_on}
pub use Rattle.metis_reconfigure.specs.Staying.{AreStaying, StayBegun, StayFor, StaysForOne, StaysToo, fresh_in, holds_up, next_serving, those_in, wished}
pub use Rattle.metis_reconfigure.specs.Targeted.{AreTables, HasRequired, IfTargets, IfUnmet, IsGivenAt, IsLeft, IsUnmet, is_lacking, is_unavoidable_by, is_unserved, is_unserved_by, lack_by, pair_in, short_by, wanted_by}
pub use Rattle.metis_reconfigure.specs.Tidied.{IsTaken, IsTidied, target_instances}
