pub mod Adding
pub mod Below
pub mod Chosen
pub mod Examples
pub mod GoalLists
pub mod Lacking
pub mod Resolving
pub mod UnderWay
