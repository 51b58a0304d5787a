pub mod Reading
pub mod Wishes
pub mod Terms
