-- What clauses and proofs cite of this crate, by one module.
pub use Rattle.metis_plan_commands.specs.Load.{IsGood, Loaded, Loads, counts_line, is_good, load_line}
pub use Rattle.metis_plan_commands.specs.Old.{IsNumbered, IsOld}
pub use Rattle.metis_plan_commands.specs.Plan.{IsDoubledByNeed, IsPlan, PlanAnswer, Plans, PlansPairs, Refuses, others, plan_of, plan_text}
pub use Rattle.metis_plan_commands.specs.Planned.{IsOfPlan, IsPlanned, IsPrintable, TellsPlanned}
pub use Rattle.metis_plan_commands.specs.Reconfigure.{HasAttempted, IsAttempted, IsBarred, IsObstacleIn, IsSound, IsTellable, PutsReconfiguration, ReconfigurationAnswer, Reconfigured, Reconfigures, obstacle_line}
pub use Rattle.metis_plan_commands.specs.Rollout.{IsRolledOut, PutsRollout, RolledOut, RolloutAnswer, RollsOut, RollsOutGoals, RollsOutPairs, RollsOutTo, rollout_plan, rollout_text}
