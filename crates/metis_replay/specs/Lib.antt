pub mod Exact
pub mod Progress
pub mod Terms
