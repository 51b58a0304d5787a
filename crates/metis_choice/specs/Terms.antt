-- What clauses and proofs cite of this crate, by one module.
pub use Rattle.metis_choice.specs.Choices.{IfLacks, IfSupport, IsFirstProvider, IsFirstWithout}
pub use Rattle.metis_choice.specs.Origins.{AreFirstBelow, IsFirstBelow, IsLeastBelow, LeadsUp}
pub use Rattle.metis_choice.specs.Resolutions.{ArePairsFor, IfLacksGoal, IfPairs, IsPairFor, IsResolved, pair_by}
pub use Rattle.metis_choice.specs.WorkList.{Adds, WorkList, work_left}
