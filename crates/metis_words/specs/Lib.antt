pub mod Form
pub mod Forms
pub mod TargetName
pub mod Words
pub mod Numbers
pub mod Rows
pub mod Terms
