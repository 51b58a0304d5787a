pub mod Counts
pub mod Finding
pub mod Flags
mod GraphExamples
pub mod Inserted
pub mod Lists
pub mod Nodes
pub mod Options
pub mod Orders
pub mod Stuck
pub mod Taken
pub mod Tests
pub mod Walks
