pub mod Canonical
pub mod Document
pub mod Reads
pub mod Spelling
pub mod FirstForm
pub mod Members
pub mod Terms
