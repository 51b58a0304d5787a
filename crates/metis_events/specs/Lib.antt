pub mod Edges
pub mod Gathered
pub mod Numbered
pub mod Returns
pub mod Terms
