pub mod Load
pub mod Old
pub mod Plan
pub mod Planned
pub mod Reconfigure
pub mod Rollout
pub mod Terms
