pub mod Crew
pub mod Tables
pub mod Turn
pub mod Terms
