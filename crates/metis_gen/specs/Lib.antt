pub mod Generated
pub mod Tables
pub mod Terms
