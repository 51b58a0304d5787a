pub mod Attempts
pub mod Formed
pub mod LoadLines
pub mod MadePlans
pub mod ObstacleLines
pub mod PlanAnswers
pub mod PrintedAudits
