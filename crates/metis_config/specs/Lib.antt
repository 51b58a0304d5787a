pub mod Crowd
pub mod Supply
pub mod Clients
pub mod Kept
pub mod Over
pub mod Unmet
pub mod Terms
