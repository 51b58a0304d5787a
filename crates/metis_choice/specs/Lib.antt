pub mod Choices
pub mod Origins
pub mod Resolutions
pub mod WorkList
pub mod Terms
