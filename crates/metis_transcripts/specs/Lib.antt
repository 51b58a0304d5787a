pub mod Cases
pub mod Outside
pub mod Plays
pub mod Runs
pub mod Settings
pub mod Staged
pub mod Terms
