pub mod FormRead
pub mod Misfits
pub mod NumberLaws
pub mod NumbersRead
