pub mod Followed
pub mod Steady
pub mod Terms
