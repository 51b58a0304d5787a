pub mod Feeding
pub mod Reasons
pub mod Shortages
pub mod Verdicts
