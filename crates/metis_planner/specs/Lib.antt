pub mod Outcomes
pub mod Rounds
pub mod UnderWay
pub mod PlanFor
pub mod Terms
