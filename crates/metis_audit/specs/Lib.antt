pub mod Audits
pub mod Doubled
pub mod Forced
pub mod Leaving
pub mod Takes
pub mod Walks
pub mod Terms
