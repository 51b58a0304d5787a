pub mod Completed
pub mod Fresh
pub mod Given
pub mod Ties
pub mod Terms
