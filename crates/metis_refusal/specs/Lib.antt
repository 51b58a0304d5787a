pub mod Claims
pub mod Supplies
pub mod Terms
