pub mod Faults
pub mod Reasons
pub mod Terms
