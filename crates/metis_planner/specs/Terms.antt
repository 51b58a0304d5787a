-- What clauses and proofs cite of this crate, by one module.
pub use Rattle.metis_planner.specs.Outcomes.{EventBelow, IfClosed, IfPlan, IsLean, IsPlanWhere}
pub use Rattle.metis_planner.specs.PlanFor.{IsPlanFor}
pub use Rattle.metis_planner.specs.Rounds.{IsByRounds, graph_after, numbered, ordered_events}
pub use Rattle.metis_planner.specs.UnderWay.{AreForced, IsUnderWay}
