pub mod Composed
pub mod FileBytes
pub mod NamedGoals
pub mod OneText
pub mod Said
pub mod TurnsRead
